-- What the number of some bytes says of them, for any number of bytes.
-- Assumes nothing.
use Prim.Native.Nat.{ℕ, zero, suc, ◌+◌, ◌*◌, ◌-◌, ◌/◌, ◌%◌, ◌^◌, ◌≤◌, ◌<◌}
use mathlib.Core.Path.{◌≡◌, refl, ap, ap₂, sym, ◌∙◌}
use mathlib.Core.Bool.{Bool, true, false, ◌&&◌}
use mathlib.Core.List.{List, [], ◌∷◌, ◌++◌}
use native.Mathlib.Nat.{div-div-eq-div-mul, div-one, zero-div, mod-one, zero-mod, one-le-pow, pow-suc, pow-succ'}
use native.Mathlib.Omega.{arith}
use borrow.Author.Tests.{ne_eqb}
use lib.Arith.{mod-mul}
use lib.Dec.{eqb}
use lib.Pow.{pow-add}
use lib.Bits.{bit_or, bit_and, or_add_and, or_zero_l, and_le_r}
use lib.ListN.{length, take, drop, get_or, replicate}
use lib.Seq.{take-nil, drop-nil, drop-drop, take-add, take-take}
use Rattle.words.specs.Words.{number, zeros}

-- ---- where a number is 0

and_and : (p q r : Bool) → ((p && q) && r) ≡ (p && (q && r))
and_and true q r = refl
and_and false q r = refl

-- a sum is 0 exactly where both are, and so is an OR
sum_none : (a b : ℕ) → eqb (a + 256 * b) 0 ≡ (eqb a 0 && eqb b 0)
sum_none zero zero = refl
sum_none zero (suc b) = ne_eqb (0 + 256 * suc b) 0 (λ e. omega (arith, e)) ∙ sym (ne_eqb (suc b) 0 (λ e. omega (arith, e)))
sum_none (suc a) b = ne_eqb (suc a + 256 * b) 0 (λ e. omega (arith, e)) ∙ sym (rw (ne_eqb (suc a) 0 (λ e. omega (arith, e))))

pub or_none : (a b : ℕ) → eqb (bit_or a b) 0 ≡ (eqb a 0 && eqb b 0)
or_none zero b = rw (or_zero_l b)
or_none (suc a) b =
    let s : (bit_or (suc a) b + bit_and (suc a) b ≡ suc a + b) = or_add_and (suc a) b in
    let l : (bit_and (suc a) b ≤ b) = and_le_r (suc a) b in
    ne_eqb (bit_or (suc a) b) 0 (λ e. omega (arith, s, l, e)) ∙ sym (rw (ne_eqb (suc a) 0 (λ e. omega (arith, e))))

-- a number is 0 exactly where its bytes are
pub number_none : (xs : List ℕ) → eqb (number xs) 0 ≡ zeros xs
unfolding number zeros
number_none [] = refl
number_none (x ∷ xs) = sum_none x (number xs) ∙ ap (λ (b : Bool). eqb x 0 && b) (number_none xs)

pub zeros-append : (xs ys : List ℕ) → zeros (xs ++ ys) ≡ (zeros xs && zeros ys)
unfolding zeros
zeros-append [] ys = refl
zeros-append (x ∷ xs) ys = ap (λ (b : Bool). eqb x 0 && b) (zeros-append xs ys) ∙ sym (and_and (eqb x 0) (zeros xs) (zeros ys))

-- two runs, one behind the other, are zeros exactly where the whole is
pub zeros_then : (l : List ℕ) (k n m : ℕ) → zeros (take (n + m) (drop k l)) ≡ (zeros (take n (drop k l)) && zeros (take m (drop (k + n) l)))
zeros_then l k n m = ap zeros (take-add n m (drop k l)) ∙ (zeros-append (take n (drop k l)) (take m (drop n (drop k l))) ∙ ap (λ (x : List ℕ). zeros (take n (drop k l)) && zeros (take m x)) (drop-drop n k l))

-- ---- the bytes of a number

abbrev pub Bytes : List ℕ → Type 0
Bytes xs = (i : ℕ) → get_or xs i 0 < 256

-- the byte at k, and the number of those behind it
pub number_step : (b : List ℕ) (k n : ℕ) → number (take (suc n) (drop k b)) ≡ get_or b k 0 + 256 * number (take n (drop (suc k) b))
unfolding number
number_step [] zero n = rw (take-nil n)
number_step [] (suc k) n = rw (take-nil n)
number_step (x ∷ xs) zero n = refl
number_step (x ∷ xs) (suc k) n = number_step xs k n

-- eight bytes, each by its weight
pub number-eight : (b : List ℕ) {a₀ a₁ a₂ a₃ a₄ a₅ a₆ a₇ : ℕ} → a₀ ≡ get_or b 0 0 → a₁ ≡ get_or b 1 0 → a₂ ≡ get_or b 2 0 → a₃ ≡ get_or b 3 0 → a₄ ≡ get_or b 4 0
    → a₅ ≡ get_or b 5 0 → a₆ ≡ get_or b 6 0 → a₇ ≡ get_or b 7 0
    → a₀ + a₁ * 256 + a₂ * 65536 + a₃ * 16777216 + a₄ * 4294967296 + a₅ * 1099511627776 + a₆ * 281474976710656 + a₇ * 72057594037927936
    ≡ number (take 8 b)
unfolding number
number-eight b e₀ e₁ e₂ e₃ e₄ e₅ e₆ e₇ =
    let s = number_step b in
    omega (arith, s 0 7, s 1 6, s 2 5, s 3 4, s 4 3, s 5 2, s 6 1, s 7 0, e₀, e₁, e₂, e₃, e₄, e₅, e₆, e₇)

-- n bytes are n times eight bits
pub bits : (n : ℕ) → 2 ^ (8 * n) ≡ 256 ^ n
bits zero = refl
bits (suc n) =
    let e : 8 * suc n ≡ 8 * n + 8 = omega arith in
    ap (λ (k : ℕ). 2 ^ k) e ∙ (pow-add 2 (8 * n) 8 ∙ (ap (λ (k : ℕ). k * 256) (bits n) ∙ sym (pow-suc 256 n)))

pub number_lt : (xs : List ℕ) → Bytes xs → number xs < 256 ^ length xs
unfolding number
number_lt [] h = omega arith
number_lt (x ∷ xs) h =
    let i = number_lt xs (λ i. h (suc i)) in
    let b : x < 256 = h 0 in
    rw (pow-suc 256 (length xs)) (omega (arith, i, b))

module _ (x : ℕ) (xs : List ℕ) (b : x < 256) where
  above : (x + 256 * number xs) / 256 ≡ number xs
  above = omega (arith, b)

  below : (x + 256 * number xs) % 256 ≡ x
  below = omega (arith, b)

-- a shift by n bytes drops the lowest n
pub number-drop : (xs : List ℕ) (n : ℕ) → Bytes xs → number xs / 256 ^ n ≡ number (drop n xs)
unfolding number
number-drop xs zero h = div-one (number xs)
number-drop [] (suc n) h = zero-div (256 ^ suc n)
number-drop (x ∷ xs) (suc n) h =
    ap (λ (k : ℕ). (x + 256 * number xs) / k) (pow-succ' 256 n)
    ∙ (sym (div-div-eq-div-mul (x + 256 * number xs) 256 (256 ^ n))
    ∙ (ap (λ (k : ℕ). k / 256 ^ n) (above x xs (h 0)) ∙ number-drop xs n (λ i. h (suc i))))

-- and what is below it keeps them
pub number_keep : (xs : List ℕ) (n : ℕ) → Bytes xs → number xs % 256 ^ n ≡ number (take n xs)
unfolding number
number_keep xs zero h = mod-one (number xs)
number_keep [] (suc n) h = zero-mod (256 ^ suc n)
number_keep (x ∷ xs) (suc n) h =
    let y = x + 256 * number xs in
    let e : y % 256 ^ suc n ≡ (y / 256 % 256 ^ n) * 256 + y % 256 = ap (λ (k : ℕ). y % k) (pow-suc 256 n) ∙ mod-mul y (one-le-pow n 256 (omega arith)) (omega arith) in
    let a : y / 256 % 256 ^ n ≡ number (take n xs) = ap (λ (k : ℕ). k % 256 ^ n) (above x xs (h 0)) ∙ number_keep xs n (λ i. h (suc i)) in
    let b = below x xs (h 0) in
    omega (arith, e, a, b)

-- ---- a run of words, gathered by OR

-- what was gathered of the first i words, and looked at, is the test of their bytes
pub record Gathered (l : List ℕ) (k a i : ℕ) : Type 0 where
  pub so : eqb a 0 ≡ zeros (take (i * 8) (drop k l))

module _ (l : List ℕ) (k : ℕ) where
  pub gathered_start : Gathered l k 0 0
  unfolding zeros
  gathered_start = record { so = refl }

  pub gathered_more : {a w : ℕ} (i : ℕ) → Gathered l k a i → w ≡ number (take 8 (drop (k + i * 8) l)) → Gathered l k (bit_or a w) (i + 1)
  gathered_more {a} {w} i g e =
      let n : (i + 1) * 8 ≡ i * 8 + 8 = omega arith in
      record {
        so =
            or_none a w
            ∙ (ap₂ ◌&&◌ g.so (ap (λ (x : ℕ). eqb x 0) e ∙ number_none (take 8 (drop (k + i * 8) l)))
            ∙ (sym (zeros_then l k (i * 8) 8) ∙ ap (λ (x : ℕ). zeros (take x (drop k l))) (sym n)));
      }
