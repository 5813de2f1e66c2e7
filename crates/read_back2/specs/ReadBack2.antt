-- Document 02, #112: a text of the second form whose lines of numbers may be any. Laws: `uncounted_refused` of loading2/proofs/Laws2.antt;
-- proofs/ReadBack2.antt.
-- Assumes nothing.
--
--   text_with gs s    the text of a state, with the lines gs where the display's numbers stand
use Rattle.std.specs.Prelude.{ℕ, List, ◌∷◌, ◌++◌}
use Rattle.digits.specs.machine.State.{State}
use Rattle.read_back.specs.saved.Saved.{frames, spelt}
use Rattle.number_lines.specs.saved2.Saved2.{SECOND, board_frame}

unfoldable pub text_with : List (List ℕ) → State → List ℕ
text_with gs s = spelt (SECOND ∷ board_frame s ∷ (frames s ++ gs))
