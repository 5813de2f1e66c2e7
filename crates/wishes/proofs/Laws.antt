-- Why the test of a map, step by step, is the wish; and which channel is on which side. Assumes nothing.
use Prim.Native.Nat.{ℕ, ◌≤◌, ◌<◌}
use mathlib.Core.Path.{◌≡◌, refl, sym, ◌∙◌}
use mathlib.Core.Bool.{Bool, true, false, ◌&&◌}
use native.Mathlib.Omega.{arith}
use lib.Dec.{eqb, ltb}
use borrow.Author.Tests.{lt-ltb, le-ltb, eq-eqb, ne_eqb}
use Rattle.wishes.specs.Wishes.{named, lefts, rights, meets}

-- #108: "channels 0 and 3 sound left, 1 and 2 right": each alone, one left or one right
pub one_left_one_right :
    (meets 1 0 1 ≡ true) × (meets 0 1 2 ≡ true) × (meets 0 1 4 ≡ true) × (meets 1 0 8 ≡ true)
    × (meets 0 1 1 ≡ false) × (meets 1 0 2 ≡ false) × (meets 1 0 4 ≡ false) × (meets 0 1 8 ≡ false)
unfolding meets lefts rights named
one_left_one_right = (refl, refl, refl, refl, refl, refl, refl, refl)

pub high-fails : (l r m : ℕ) → 15 < m → false ≡ meets l r m
unfolding meets
high-fails l r m h = rw (le-ltb m 16 (omega arith)) refl

pub lefts_fail : (l r m k : ℕ) → k ≡ lefts m → (k ≡ l → ⊥) → false ≡ meets l r m
unfolding meets
lefts_fail l r m k e n = rw (ne_eqb (lefts m) l (λ q. n (e ∙ q))) (go (ltb m 16))
  where
    go : (b : Bool) → false ≡ (b && false && eqb (rights m) r)
    go true = refl
    go false = refl

pub rights_tell : (l r m k j : ℕ) → m ≤ 15 → j ≡ lefts m → j ≡ l → k ≡ rights m → eqb k r ≡ meets l r m
unfolding meets
rights_tell l r m k j h e q f = rw (lt-ltb m 16 (omega arith), eq-eqb (lefts m) l (sym e ∙ q), f) refl
