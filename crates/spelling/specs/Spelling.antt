-- Document 01, "The log": bytes as upper-case hexadecimal.
-- Assumes nothing.
--
--   digits bs   the hexadecimal digits of bytes, without LF
use Rattle.std.specs.Prelude.{ℕ, ◌/◌, ◌%◌, List, [], ◌∷◌}
use Rattle.machine.specs.Log.{hex_digit}

abbrev pub digits : List ℕ → List ℕ
digits [] = []
digits (b ∷ bs) = hex_digit (b / 16) ∷ hex_digit (b % 16) ∷ digits bs
