-- Lines of hexadecimal in lent memory. Assumes nothing.
--
--   Put l at vs r l'   the bytes vs were written at a place, every other byte is as before, and r is the place behind them
--   octets_of l         the bytes that a line spells, 23 at most; none where it spells none, or more
use Rattle.std.specs.Prelude.{ℕ, ◌+◌, ◌≡◌, ◌&&◌, List, [], leb, length, if◌then◌else◌}
use Rattle.spelling.specs.memory.Splice.{splice}
use Rattle.digits.specs.Digits.{spells, pairs}

pub record Put (l : List ℕ) (at : ℕ) (vs : List ℕ) (r : ℕ) (l' : List ℕ) : Type 0 where
  pub bytes : l' ≡ splice l at vs
  pub next : r ≡ at + length vs

unfoldable pub octets_of : List ℕ → List ℕ
octets_of l = if leb (length l) 46 && spells l then pairs l else []
