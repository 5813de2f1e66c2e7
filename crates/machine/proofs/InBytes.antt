-- What pins the bytes of numbers, marks and precedences: values, and that the two ways of a precedence undo each other.
-- Assumes nothing.
use Prim.Native.Nat.{ℕ, ◌≤◌}
use mathlib.Core.Path.{◌≡◌, refl}
use mathlib.Core.Bool.{true, false}
use mathlib.Core.List.{[], ◌∷◌, map}
use native.Mathlib.Omega.{arith}
use Rattle.machine.specs.InBytes.{two_bytes, mark_of, signed}

-- ---- "key (two bytes, high first)"

pub high_first : map two_bytes (1 ∷ 258 ∷ 65535 ∷ []) ≡ (0 ∷ 1 ∷ []) ∷ (1 ∷ 2 ∷ []) ∷ (255 ∷ 255 ∷ []) ∷ []
high_first = refl

pub marks_told : map mark_of (true ∷ false ∷ []) ≡ 1 ∷ 0 ∷ []
marks_told = refl

-- ---- "precedence (two's complement)"

-- -128, -1, 0, 1 and 127, as they are stored
pub signed-told : map signed (0 ∷ 127 ∷ 128 ∷ 129 ∷ 255 ∷ []) ≡ 128 ∷ 255 ∷ 0 ∷ 1 ∷ 127 ∷ []
signed-told = refl

pub signed_twice : (p : ℕ) → p ≤ 255 → signed (signed p) ≡ p
signed_twice p h = omega arith
