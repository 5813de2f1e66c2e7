-- Document 02, #112: "Saved states, second form." "The saved text needs the number of channels and the two display numbers." The lines
-- between are those of the first form (crate `saved`). docs/saved.md writes them down, with a worked example.
-- Assumes nothing.
--
--   SECOND              the bytes of the first line
--   board_frame s        the bytes of the line that names the board: its number of channels
--   number_frame s i     the bytes of the line of channel i: its number of writes, and of the waiting requests that name it
--   number_frames n s    those of the first n channels, in order
--   frames2 s           all lines behind the board's: those of the first form, then the numbers of the board's own channels
--   text2 s             the saved text of a state in the second form
--   TextOf2 w s t       the text t was saved, in the second form, of the sound state s of a board with w channels
use Rattle.std.specs.Prelude.{ℕ, zero, suc, ◌≡◌, List, [], ◌∷◌, ◌++◌, T, length}
use Rattle.machine.specs.State.{State}
use Rattle.machine.specs.Sound.{sound}
use Rattle.display.specs.Display.{writes_on, naming}
use Rattle.saved.specs.Saved.{frames, spelt}

-- "The new form opens with D002"
abbrev pub SECOND : List ℕ
SECOND = 0xD0 ∷ 0x02 ∷ []

-- "then the channel number"
abbrev pub board_frame : State → List ℕ
board_frame s = 0xD8 ∷ length s.channels ∷ []

-- "the two display numbers": channel, writes, naming
unfoldable pub number_frame : State → ℕ → List ℕ
number_frame s i = 0xD9 ∷ i ∷ writes_on i s ∷ naming i s ∷ []

unfoldable pub number_frames : ℕ → State → List (List ℕ)
number_frames zero s = []
number_frames (suc n) s = number_frames n s ++ (number_frame s n ∷ [])

unfoldable pub frames2 : State → List (List ℕ)
frames2 s = frames s ++ number_frames (length s.channels) s

unfoldable pub text2 : State → List ℕ
text2 s = spelt (SECOND ∷ board_frame s ∷ frames2 s)

pub record TextOf2 (w : ℕ) (s : State) (t : List ℕ) : Type 0 where
  pub sane : T (sound s)
  pub width : length s.channels ≡ w
  pub saved : t ≡ text2 s
