-- Document 02, #112: what is promised of a state that is saved in the second form, for whatever bytes are lent.
-- Assumes nothing.
--
--   TEXT2                     3,521: no text of the second form is longer (`saved2.Lengths2.text2_most`)
--   Filled vs l e n l'        0, and the bytes vs, with every byte behind them as before
--   Fills vs l e n l'         so it is where they fit, and else "short room 12 last, and nothing is written"
--   Agrees dp s               the bytes of a display are its size, and its numbers agree with a count over the state
--   Saves2 st tb dp l e n l'  the promise of `save2`: 1 comes before 12
use Rattle.std.specs.Prelude.{ℕ, ◌≤◌, ◌<◌, ◌≡◌, List, length, take}
use Rattle.machine.specs.Numbers.{UNSOUND, TOOSMALL}
use Rattle.machine.specs.State.{State}
use Rattle.display.specs.Display.{NUMBERS, DISPLAY, numbers}
use Rattle.accepting.specs.waiting_list.WaitingList.{Sound}
use Rattle.number_lines.specs.hex_lines.HexLines.{Put}
use Rattle.accepting.specs.saving.Saving.{held_by, Unwritten}
use Rattle.number_lines.specs.saved2.Saved2.{text2}

abbrev pub TEXT2 : ℕ
TEXT2 = 3521

pub record Filled (vs l : List ℕ) (e n : ℕ) (l' : List ℕ) : Type 0 where
  pub error : e ≡ 0
  pub put : Put l 0 vs n l'

pub record Fills (vs l : List ℕ) (e n : ℕ) (l' : List ℕ) : Type 0 where
  pub short : length l < length vs → Unwritten TOOSMALL l e n l'
  pub full : length vs ≤ length l → Filled vs l e n l'

-- "The saved text needs .. the two display numbers", of all eight places; the looks are no part of it
pub record Agrees (dp : List ℕ) (s : State) : Type 0 where
  pub size : length dp ≡ DISPLAY
  pub counts : take NUMBERS dp ≡ numbers s

-- numbers that disagree with a count have no text
pub record Saves2 (st tb dp l : List ℕ) (e n : ℕ) (l' : List ℕ) : Type 0 where
  pub unsound : (Sound st tb → ⊥) → Unwritten UNSOUND l e n l'
  pub disagree : (Agrees dp (held_by st tb) → ⊥) → Unwritten UNSOUND l e n l'
  pub saved : Sound st tb → Agrees dp (held_by st tb) → Fills (text2 (held_by st tb)) l e n l'
