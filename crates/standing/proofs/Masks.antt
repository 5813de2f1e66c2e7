-- Why masks serve: bit by bit, a mask and a map share a channel exactly where the map names one that fails the test. Assumes
-- nothing.
use Prim.Native.Nat.{ℕ, zero, suc, ◌+◌, ◌*◌, ◌/◌, ◌%◌, ◌^◌, ◌≤◌, ◌<◌, min}
use mathlib.Core.Path.{◌≡◌, refl, ap, sym, ◌∙◌}
use mathlib.Core.Bool.{Bool, true, false, not, ◌&&◌, ◌||◌}
use mathlib.Core.List.{List, [], ◌∷◌, map}
use native.Mathlib.Nat.{pow-suc}
use native.Mathlib.Omega.{arith}
use borrow.Author.Tests.{eq-eqb, ne_eqb, eqb-true, eqb-false}
use lib.Bits.{bit_and, and_step, and_zero_r}
use lib.Dec.{eqb}
use lib.ListN.{length}
use lib.Pow.{pow_pos}
use Rattle.std.specs.Prelude.{if◌then◌else◌}
use Rattle.machine.specs.State.{Channel}
use Rattle.machine.specs.Maps.{odd, half, bit, named}
use Rattle.channel.proofs.machine_laws.Maps.{odd-bit, half-bit, bit_of}
use Rattle.standing.specs.Standing.{failing}

-- ---- the bit step

both : (x y : ℕ) → eqb (min (x % 2) (y % 2)) 1 ≡ (eqb (x % 2) 1 && eqb (y % 2) 1)
both x y = go (eqb (x % 2) 1) (eqb (y % 2) 1) refl refl
  where
    go : (a b : Bool) → eqb (x % 2) 1 ≡ a → eqb (y % 2) 1 ≡ b → eqb (min (x % 2) (y % 2)) 1 ≡ (a && b)
    go true true e f = let p = eqb-true (x % 2) 1 e in let q = eqb-true (y % 2) 1 f in eq-eqb (min (x % 2) (y % 2)) 1 (omega arith)
    go true false e f = let q = eqb-false (y % 2) 1 f in ne_eqb (min (x % 2) (y % 2)) 1 (omega arith)
    go false b e f = let p = eqb-false (x % 2) 1 e in ne_eqb (min (x % 2) (y % 2)) 1 (omega arith)

pub and_odd : (x y : ℕ) → odd (bit_and x y) ≡ (odd x && odd y)
unfolding odd
and_odd x y =
    let s = and_step x y in
    let e : bit_and x y % 2 ≡ min (x % 2) (y % 2) = omega arith in
    ap (λ (z : ℕ). eqb z 1) e ∙ both x y

pub and_half : (x y : ℕ) → half (bit_and x y) ≡ bit_and (half x) (half y)
unfolding half
and_half x y = let s = and_step x y in omega arith

zero_step : (x : ℕ) → eqb x 0 ≡ (not (odd x) && eqb (half x) 0)
unfolding odd half
zero_step x = go (eqb (x % 2) 1) (eqb (x / 2) 0) refl refl
  where
    go : (a b : Bool) → eqb (x % 2) 1 ≡ a → eqb (x / 2) 0 ≡ b → eqb x 0 ≡ (not a && b)
    go true b e f = let p = eqb-true (x % 2) 1 e in ne_eqb x 0 (omega arith)
    go false true e f = let p = eqb-false (x % 2) 1 e in let q = eqb-true (x / 2) 0 f in eq-eqb x 0 (omega arith)
    go false false e f = let q = eqb-false (x / 2) 0 f in ne_eqb x 0 (omega arith)

-- ---- failing

module _ {ℓ} {A : Type ℓ} (f : A → Bool) (x : A) (xs : List A) (m : ℕ) where
  pub failing-odd : odd (bit_and m (failing f (x ∷ xs))) ≡ (odd m && not (f x))
  unfolding failing
  failing-odd = rw (and_odd m, odd-bit)

  pub failing-half : half (bit_and m (failing f (x ∷ xs))) ≡ bit_and (half m) (failing f xs)
  unfolding failing
  failing-half = rw (and_half m, half-bit)

pub failing-map {ℓ κ} : {A : Type ℓ} {B : Type κ} (f : B → Bool) (g : A → B) (xs : List A) → failing f (map g xs) ≡ failing (λ x. f (g x)) xs
unfolding failing
failing-map f g [] = refl
failing-map f g (x ∷ xs) = ap (bit (not (f (g x)))) (failing-map f g xs)

pub failing_lt {ℓ} : {A : Type ℓ} (f : A → Bool) (n : ℕ) (xs : List A) → length xs ≤ n → failing f xs < 2 ^ n
unfolding failing bit
failing_lt f n [] h = pow_pos n
failing_lt f zero (x ∷ xs) h = absurd (omega arith)
failing_lt f (suc n) (x ∷ xs) h = go (not (f x)) (failing_lt f n xs (omega arith))
  where
    go : (b : Bool) → failing f xs < 2 ^ n → (if b then 1 else 0) + 2 * failing f xs < 2 ^ suc n
    go true k = omega (arith, pow-suc 2 n)
    go false k = omega (arith, pow-suc 2 n)

-- what fails both tests is what fails either's sum
pub failing_and {ℓ} : {A : Type ℓ} (f g : A → Bool) (xs : List A) → bit_and (failing f xs) (failing g xs) ≡ failing (λ x. f x || g x) xs
unfolding failing
failing_and f g [] = and_zero_r 0
failing_and f g (x ∷ xs) =
    let a = bit (not (f x)) (failing f xs) in
    let b = bit (not (g x)) (failing g xs) in
    sym (bit_of (bit_and a b))
    ∙ (rw (and_odd a b, odd-bit (not (f x)) (failing f xs), odd-bit (not (g x)) (failing g xs), and_half a b, half-bit (not (f x)) (failing f xs), half-bit (not (g x)) (failing g xs), failing_and f g xs, nor (f x) (g x)))
  where
    nor : (p q : Bool) → (not p && not q) ≡ not (p || q)
    nor true q = refl
    nor false q = refl

-- a mask and a map that share nothing: each channel named passes
pub failing_test : (f : Channel → Bool) (m : ℕ) (cs : List Channel) → eqb (bit_and m (failing f cs)) 0 ≡ named f m cs
unfolding named
failing_test f m [] = unfold failing in rw (and_zero_r m)
failing_test f m (c ∷ cs) =
    zero_step (bit_and m (failing f (c ∷ cs)))
    ∙ rw (failing-odd f c cs m, failing-half f c cs m, failing_test f (half m) cs, named_or (odd m) (f c))
  where
    named_or : (a b : Bool) → not (a && not b) ≡ (not a || b)
    named_or true true = refl
    named_or true false = refl
    named_or false b = refl

module _ (f : Channel → Bool) (m : ℕ) (cs : List Channel) {k : ℕ} (e : k ≡ failing f cs) where
  pub failing_pass : bit_and m k ≡ 0 → named f m cs ≡ true
  failing_pass h = sym (failing_test f m cs) ∙ eq-eqb (bit_and m (failing f cs)) 0 (rw e at h)

  pub failing_fail : (bit_and m k ≡ 0 → ⊥) → named f m cs ≡ false
  failing_fail n = sym (failing_test f m cs) ∙ ne_eqb (bit_and m (failing f cs)) 0 (λ z. n (rw e z))
