-- The digits of a line of the log as the code tests them.
-- Assumes nothing.
--
--   has_one o, value_of o   whether there is a digit's value; that value, and 16 where there is none
--   is_digit b, spells l   whether a byte is a digit; whether a line is digits alone, two to a byte
--   pairs l               the bytes that the digits of a line spell
use Rattle.std.specs.Prelude.{ℕ, ◌+◌, ◌*◌, ◌%◌, Bool, true, false, ◌&&◌, List, [], ◌∷◌, eqb, length}
use Rattle.std.proofs.Math.Option.{Option, none, some}
use Rattle.machine.specs.Lists.{all}
use Rattle.machine.specs.Log.{digit}

abbrev pub has_one : Option ℕ → Bool
has_one none = false
has_one (some v) = true

abbrev pub value_of : Option ℕ → ℕ
value_of none = 16
value_of (some v) = v

abbrev pub is_digit : ℕ → Bool
is_digit b = has_one (digit b)

unfoldable pub spells : List ℕ → Bool
spells l = all is_digit l && eqb (length l % 2) 0

unfoldable pub pairs : List ℕ → List ℕ
pairs [] = []
pairs (h ∷ []) = []
pairs (h ∷ l ∷ bs) = (16 * value_of (digit h) + value_of (digit l)) ∷ pairs bs
