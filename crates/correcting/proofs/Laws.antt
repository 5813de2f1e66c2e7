-- The whole display: the numbers in front, then the looks.
-- Assumes nothing.
use Prim.Native.Nat.{ℕ, ◌+◌, ◌≤◌}
use mathlib.Core.Path.{◌≡◌, ap, ◌∙◌}
use mathlib.Core.List.{List, [], ◌∷◌, ◌++◌, append-nil}
use native.Mathlib.Omega.{arith}
use lib.ListN.{length, length-append}
use Rattle.memory.specs.Splice.{splice}
use Rattle.memory.proofs.Splice.{splice_then}

-- the numbers in front, then the looks
pub whole_display : (d xs : List ℕ) (a b : ℕ) → length d ≡ 18 → length xs ≡ 16 → splice (splice d 0 xs) 16 (a ∷ b ∷ []) ≡ xs ++ a ∷ b ∷ []
unfolding splice
whole_display d xs a b h e =
    splice_then d 0 xs (a ∷ b ∷ []) 16 (omega (arith, e)) (omega (arith, e, h))
    ∙ (ap (λ (x : List ℕ). (xs ++ a ∷ b ∷ []) ++ x) (let g : length d ≤ 0 + length (xs ++ a ∷ b ∷ []) = let k = length-append xs (a ∷ b ∷ []) in omega (arith, e, h, k) in lib.ListN.drop_of_length-le d g)
    ∙ append-nil (xs ++ a ∷ b ∷ []))
