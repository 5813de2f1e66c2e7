-- How far each number of the wall display moves.
-- Assumes nothing.
--
--   count_at ns w j        what is counted for place j: at an even place, of writes, the number of its channel in ns; at an odd one its lane of w
--   moved m l j bs        the numbers bs, which stand from place j on: at each place what joined is added, and what left taken away
--   Moves s t m l         from state s to t each count moves by what joins and what leaves at its place
use Rattle.std.specs.Prelude.{ℕ, suc, ◌+◌, ◌≤◌, ◌<◌, ◌≡◌, List, [], ◌∷◌, get_or, if◌then◌else◌}
use Rattle.store.specs.machine.State.{State}
use Rattle.store.specs.machine.Maps.{odd, half}
use Rattle.display.specs.Display.{NUMBERS, number}
use Rattle.lanes.specs.Lanes.{lane}
use Rattle.shifting.specs.Shifting.{shifted}

abbrev pub count_at : List ℕ → ℕ → ℕ → ℕ
count_at ns w j = if odd j then lane (half j) w else get_or ns (half j) 0

unfoldable pub moved : (ℕ → ℕ) → (ℕ → ℕ) → ℕ → List ℕ → List ℕ
moved more less j [] = []
moved more less j (b ∷ bs) = shifted b (more j) (less j) ∷ moved more less (suc j) bs

pub record Moves (s t : State) (more less : ℕ → ℕ) : Type 0 where
  pub few : (j : ℕ) → j < NUMBERS → less j ≤ 256
  pub by : (j : ℕ) → j < NUMBERS → number j t + less j ≡ number j s + more j
