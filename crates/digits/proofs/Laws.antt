-- What a line's digits spell, and which lines are frames. Assumes nothing.
use Prim.Native.Nat.{ℕ, zero, suc, ◌+◌, ◌-◌, ◌*◌, ◌/◌, ◌%◌, ◌≤◌, ◌<◌}
use mathlib.Core.Path.{◌≡◌, refl, ap, sym, ◌∙◌}
use mathlib.Core.Bool.{Bool, true, false, ◌&&◌}
use mathlib.Core.List.{List, [], ◌∷◌}
use mathlib.Core.Option.{Option, none, some}
use native.Mathlib.Omega.{arith}
use native.Mathlib.Decide.{dec_lt}
use borrow.Author.Tests.{eqb-true, le-leb, eq-eqb, ne_eqb}
use lib.Dec.{eqb, leb, leb→le}
use lib.ListN.{length, get_or, take}
use lib.Seq.{take_all, length-take-le}
use Rattle.std.specs.Prelude.{if◌then◌else◌}
use Rattle.std.proofs.lemmas.List.Recursion.{and_is}
use Rattle.machine.specs.Lists.{all}
use Rattle.machine.specs.Log.{digit, joined, unhex, call_of, frame}
use Rattle.machine.proofs.Tests.{by_test, test_true, test_false, if_elim, and_right}
use Rattle.digits.specs.Digits.{has_one, value_of, is_digit, spells, pairs}

-- ---- digit

abbrev pub Small : Option ℕ → Type 0
Small none = Unit {0}
Small (some v) = v < 16

pub small-digit : (b : ℕ) → Small (digit b)
unfolding digit
small-digit b =
    if_elim Small (leb 48 b && leb b 57)
    (λ t. let h : b ≤ 57 = leb→le b 57 (and_right (leb 48 b) (leb b 57) t) in let z : b - 48 < 16 = omega arith in z)
    (λ _. if_elim Small (leb 65 b && leb b 70)
    (λ t. let h : b ≤ 70 = leb→le b 70 (and_right (leb 65 b) (leb b 70) t) in let z : b - 55 < 16 = omega arith in z)
    (λ _. tt))

digit-below_16 : (b : ℕ) → is_digit b ≡ true → value_of (digit b) < 16
digit-below_16 b h = go (digit b) (small-digit b) h
  where
    go : (o : Option ℕ) → Small o → has_one o ≡ true → value_of o < 16
    go none t e = absurd (let z : ◌≡◌ {A = ℕ} 0 1 = cc in omega arith)
    go (some v) t e = t

-- ---- spells

and_true : (b : Bool) → (b && true) ≡ b
and_true true = refl
and_true false = refl

and_false : (b : Bool) → (b && false) ≡ false
and_false true = refl
and_false false = refl

both : (a b : Bool) → (a && b) ≡ true → (a ≡ true) × (b ≡ true)
both true b h = (refl, h)
both false b h = absurd (let z : ◌≡◌ {A = ℕ} 0 1 = cc in omega arith)

module _ (l : List ℕ) (h : spells l ≡ true) where
  pub spells-digits : all is_digit l ≡ true
  unfolding spells
  spells-digits = (both (all is_digit l) (eqb (length l % 2) 0) h).0

  pub spells_even : length l % 2 ≡ 0
  unfolding spells
  spells_even = eqb-true (length l % 2) 0 (both (all is_digit l) (eqb (length l % 2) 0) h).1

all_at : (l : List ℕ) (i : ℕ) → all is_digit l ≡ true → i < length l → is_digit (get_or l i 0) ≡ true
unfolding all
all_at [] i h g = absurd (omega arith)
all_at (b ∷ l) zero h g = (both (is_digit b) (all is_digit l) h).0
all_at (b ∷ l) (suc i) h g = all_at l i (both (is_digit b) (all is_digit l) h).1 (omega arith)

pub is_digit_at : (l : List ℕ) (i : ℕ) → spells l ≡ true → i < length l → is_digit (get_or l i 0) ≡ true
is_digit_at l i h g = all_at l i (spells-digits l h) g

pub spelt-digit : (l : List ℕ) (i : ℕ) → spells l ≡ true → i < length l → value_of (digit (get_or l i 0)) < 16
spelt-digit l i h g = digit-below_16 (get_or l i 0) (is_digit_at l i h g)

-- a test of each byte that has answered r
pub tested : (l : List ℕ) (r : Bool) → (r ≡ true → (i : ℕ) → i < length l → is_digit (get_or l i 0) ≡ true)
    → (r ≡ false → (i : ℕ) × (i < length l) × (is_digit (get_or l i 0) ≡ false)) → r ≡ all is_digit l
unfolding all
tested l r = and_is (all is_digit) is_digit refl (λ _ _. refl) l 0 r

pub even_spells : (l : List ℕ) (r : Bool) → length l % 2 ≡ 0 → r ≡ all is_digit l → r ≡ spells l
unfolding spells
even_spells l r h e = rw (eq-eqb _ _ h, and_true (all is_digit l)) e

pub odd_spells : (l : List ℕ) → (length l % 2 ≡ 0 → ⊥) → eqb (length l % 2) 0 ≡ spells l
unfolding spells
odd_spells l h = rw (ne_eqb _ _ h, and_false (all is_digit l))

-- ---- pairs

pub length_pairs : (l : List ℕ) → length (pairs l) ≡ length l / 2
unfolding pairs
length_pairs [] = refl
length_pairs (h ∷ []) = omega arith
length_pairs (h ∷ l ∷ bs) = let e = length_pairs bs in omega arith

pub get_d_pairs : (l : List ℕ) (i : ℕ) → i * 2 + 1 < length l
    → get_or (pairs l) i 0 ≡ 16 * value_of (digit (get_or l (i * 2) 0)) + value_of (digit (get_or l (i * 2 + 1) 0))
unfolding pairs
get_d_pairs [] i h = absurd (omega arith)
get_d_pairs (a ∷ []) i h = absurd (omega arith)
get_d_pairs (a ∷ b ∷ l) zero h = refl
get_d_pairs (a ∷ b ∷ l) (suc i) h =
    let e : suc i * 2 + 1 ≡ suc (suc (i * 2 + 1)) = omega arith in
    let f : suc i * 2 ≡ suc (suc (i * 2)) = omega arith in
    rw (e, f) (get_d_pairs l i (omega arith))

pub spelt_byte : (l : List ℕ) (i : ℕ) → spells l ≡ true → i * 2 + 1 < length l → get_or (pairs l) i 0 < 256
spelt_byte l i h g =
    let x = spelt-digit l (i * 2) h (omega arith) in
    let y = spelt-digit l (i * 2 + 1) h g in
    rw (get_d_pairs l i g) (omega arith)

-- ---- unhex

-- two digits more
joined-pairs : (h l : Option ℕ) (p q : Bool) (bs : List ℕ)
    → joined h l (if p && q then some bs else none)
    ≡ (if (has_one h && (has_one l && p)) && q then some ((16 * value_of h + value_of l) ∷ bs) else none)
unfolding joined
joined-pairs (some h) (some l) true true bs = refl
joined-pairs (some h) (some l) true false bs = refl
joined-pairs (some h) (some l) false q bs = refl
joined-pairs (some h) none p q bs = refl
joined-pairs none l p q bs = refl

pub unhex-pairs : (l : List ℕ) → unhex l ≡ (if spells l then some (pairs l) else none)
unfolding unhex spells pairs all joined
unhex-pairs [] = refl
unhex-pairs (h ∷ []) = sym (ap (λ (b : Bool). if b then some [] else none) (and_false (is_digit h && true)))
unhex-pairs (h ∷ l ∷ bs) =
    let e : suc (suc (length bs)) % 2 ≡ length bs % 2 = omega arith in
    rw (unhex-pairs bs, e) (joined-pairs (digit h) (digit l) (all is_digit bs) (eqb (length bs % 2) 0) (pairs bs))

-- ---- frame

frame_no : (bs : List ℕ) → (length bs ≡ 8 + get_or bs 7 0 → ⊥) → frame (some bs) ≡ none
unfolding frame
frame_no bs h = rw (ne_eqb _ _ h, and_false (leb 8 (length bs)))

frame_yes : (bs : List ℕ) → length bs ≡ 8 + get_or bs 7 0 → frame (some bs) ≡ some (call_of bs)
unfolding frame
frame_yes bs h = rw (eq-eqb _ _ h, le-leb 8 (length bs) (omega arith))

module _ (l : List ℕ) where
  pub unhex-spelt : spells l ≡ true → unhex l ≡ some (pairs l)
  unhex-spelt h = unhex-pairs l ∙ rw h

  pub is_frame : spells l ≡ true → length l ≡ get_or (pairs l) 7 0 * 2 + 16 → frame (unhex l) ≡ some (call_of (pairs l))
  is_frame h e = let p = length_pairs l in rw (unhex-spelt h) (frame_yes (pairs l) (omega arith))

  pub is_malformed : (spells l ≡ true → length l ≡ get_or (pairs l) 7 0 * 2 + 16 → ⊥) → frame (unhex l) ≡ none
  unfolding frame
  is_malformed n =
      by_test (spells l)
      (λ t. let h = test_true (spells l) t in
      let p = length_pairs l in
      let v = spells_even l h in
      rw (unhex-spelt h) (frame_no (pairs l) (λ e. n h (omega arith))))
      (λ t. rw (unhex-pairs l, test_false (spells l) t))

  pub short_malformed : length l < 16 → frame (unhex l) ≡ none
  short_malformed g = is_malformed (λ h e. omega arith)

  pub unspelt_malformed : spells l ≡ false → frame (unhex l) ≡ none
  unfolding frame
  unspelt_malformed f = rw (unhex-pairs l, f)

  pub uneven_malformed : spells l ≡ true → (length l ≡ get_or (pairs l) 7 0 * 2 + 16 → ⊥) → frame (unhex l) ≡ none
  uneven_malformed h n = is_malformed (λ _ e. n e)

  -- a frame has at most 263 bytes
  pub long_line_malformed : 526 < length l → frame (unhex l) ≡ none
  long_line_malformed g = is_malformed (λ h e. let b = spelt_byte l 7 h (omega arith) in omega arith)

-- so a line that is cut behind 527 bytes reads as it does whole
pub take_527_malformed : (l : List ℕ) → frame (unhex (take 527 l)) ≡ frame (unhex l)
take_527_malformed l = elim (dec_lt 527 (length l)) [
  | yes k ↦ let e = length-take-le 527 l (omega arith) in long_line_malformed (take 527 l) (omega arith) ∙ sym (long_line_malformed l (omega arith))
  | no k ↦ rw (take_all 527 l (omega arith))
]
