-- Document 02, #106: what is promised of a state that is saved, for whatever bytes are lent.
-- Assumes nothing.
--
--   TEXT                     3,344: no text of four channels is longer (`saved.Lengths.text_most`)
--   EIGHT                    10: eight channels, which have no text of the first form; 12 is for "A text that doesn't fit the lent room"
--   held_by st tb             the state that the bytes hold
--   Unwritten c l e n l'     the refusal c: no length, "and nothing is written"
--   Full st tb l e n l'      0, and the text of the state, with every byte behind it as before
--   Saves st tb l e n l'     the promise of `save`: 1 comes before 10, and 10 before 12
use Rattle.std.specs.Prelude.{ℕ, ◌≤◌, ◌<◌, ◌≡◌, List, length}
use Rattle.machine.specs.Numbers.{UNSOUND, TOOSMALL}
use Rattle.machine.specs.State.{State}
use Rattle.image.specs.board.Board.{state_in}
use Rattle.image.specs.Image.{state_of}
use Rattle.waiting_list.specs.WaitingList.{Sound}
use Rattle.hex_lines.specs.HexLines.{Put}
use Rattle.saved_lines.specs.saved.Saved.{text}

abbrev pub TEXT : ℕ
TEXT = 3344

abbrev pub EIGHT : ℕ
EIGHT = 10

abbrev pub held_by : List ℕ → List ℕ → State
held_by st tb = state_in (state_of st) tb

pub record Unwritten (c : ℕ) (l : List ℕ) (e n : ℕ) (l' : List ℕ) : Type 0 where
  pub error : e ≡ c
  pub count : n ≡ 0
  pub room : l' ≡ l

pub record Full (st tb l : List ℕ) (e n : ℕ) (l' : List ℕ) : Type 0 where
  pub error : e ≡ 0
  pub put : Put l 0 (text (held_by st tb)) n l'

-- "A text that doesn't fit the lent room gets 12 and nothing is written."
pub record Saves (st tb l : List ℕ) (e n : ℕ) (l' : List ℕ) : Type 0 where
  pub unsound : (Sound st tb → ⊥) → Unwritten UNSOUND l e n l'
  pub eight : Sound st tb → ((state_of st).width ≡ 4 → ⊥) → Unwritten EIGHT l e n l'
  pub short : Sound st tb → (state_of st).width ≡ 4 → length l < length (text (held_by st tb)) → Unwritten TOOSMALL l e n l'
  pub full : Sound st tb → (state_of st).width ≡ 4 → length (text (held_by st tb)) ≤ length l → Full st tb l e n l'
