-- A line's output at the front of a room: what is promised. Assumes nothing.
--
--   Pours text k out out'         the first k bytes of a text stand in front of `out`
use Rattle.std.specs.Prelude.{ℕ, ◌≡◌, List, take}
use Rattle.memory.specs.Splice.{splice}

pub record Pours (text : List ℕ) (k : ℕ) (out out' : List ℕ) : Type 0 where
  pub bytes : out' ≡ splice out 0 (take k text)
