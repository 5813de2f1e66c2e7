-- The wall display as lines of a log, from its bytes. Crate `display` says what the lines are; proofs/DisplayLines.antt proves that these
-- are they.
-- Assumes nothing.
--
--   load_of w d            E0, the two numbers of each of w channels, then the looks: document 02, #110, "each channel's number of writes
--                         and the number of waiting allocations naming it"
--   four_of w              a struct as the four bytes of its record
--   record_lines ws        E1 and its four bytes for each struct: "one for each waiting request"
--   display_of w d ws      both
--   Shows w d ws out r out'   what `spell` promises: these lines stand in front, every other byte is as before, r is their length, which is
--                         within the memory lent
use Rattle.std.specs.Prelude.{ℕ, ◌*◌, ◌≤◌, ◌≡◌, List, [], ◌∷◌, ◌++◌, length, take, drop, if◌then◌else◌}
use Rattle.spelling.specs.machine.Log.{line}
use Rattle.spelling.specs.memory.Splice.{splice}
use Rattle.display.specs.Display.{NUMBERS}
use Rattle.record_structs.specs.declared.Waiter.{Waiter}

unfoldable pub load_of : ℕ → List ℕ → List ℕ
load_of w d = line (0xE0 ∷ take (2 * w) d ++ drop NUMBERS d)

abbrev pub four_of : Waiter → List ℕ
four_of w = w.id ∷ w.prec ∷ (if w.held then 1 else 0) ∷ w.desk ∷ []

unfoldable pub record_lines : List Waiter → List ℕ
record_lines [] = []
record_lines (w ∷ ws) = line (0xE1 ∷ four_of w) ++ record_lines ws

abbrev pub display_of : ℕ → List ℕ → List Waiter → List ℕ
display_of w d ws = load_of w d ++ record_lines ws

pub record Shows (w : ℕ) (d : List ℕ) (ws : List Waiter) (out : List ℕ) (r : ℕ) (out' : List ℕ) : Type 0 where
  pub count : r ≡ length (display_of w d ws)
  pub bytes : out' ≡ splice out 0 (display_of w d ws)
  pub few : r ≤ 743
