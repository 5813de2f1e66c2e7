-- The lines of a saved text, read in order. Assumes nothing.
--
--   frames_in t        the bytes that each line of a text spells
--   read_from t tb     what they make of a fresh state and the table tb
use Rattle.std.specs.Prelude.{ℕ, List, map}
use Rattle.digits.specs.machine.Log.{lines}
use Rattle.hex_lines.specs.HexLines.{octets_of}
use Rattle.saved_frames.specs.sheet.Sheet.{Sheet, blank, taken_all}

unfoldable pub frames_in : List ℕ → List (List ℕ)
frames_in t = map octets_of (lines t)

unfoldable pub read_from : List ℕ → List ℕ → Sheet
read_from t tb = taken_all (frames_in t) (blank tb)
