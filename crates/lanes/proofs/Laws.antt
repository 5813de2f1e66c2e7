-- Requests that leave or join move the number of all lanes by their words; and what is read of a lane is its channel's count.
-- Assumes nothing.
use Prim.Native.Nat.{ℕ, zero, suc, ◌+◌, ◌*◌, ◌-◌, ◌/◌, ◌%◌, ◌^◌, ◌≤◌, ◌<◌}
use mathlib.Core.Path.{◌≡◌, refl, ap, ap₂, sym, subst, ◌∙◌}
use mathlib.Core.Bool.{Bool, true, false, not, ◌&&◌, ◌||◌}
use mathlib.Core.List.{List, [], ◌∷◌, ◌++◌}
use native.Mathlib.Nat.{div-one, zero-div}
use native.Mathlib.Omega.{arith}
use borrow.Author.Tests.{eqb-true, eqb-false, ne_eqb}
use lib.Bits.{bit_or, or_shr, or_mod}
use lib.Dec.{T, eqb, ltb}
use lib.ListN.{length, take, drop, get_or, drop_of_length-le}
use lib.Seq.{drop-cons}
use Rattle.std.specs.Prelude.{if◌then◌else◌}
use Rattle.machine.specs.Lists.{any, keep}
use Rattle.machine.specs.State.{Request}
use Rattle.machine.specs.Maps.{odd}
use Rattle.machine.specs.Allocating.{enqueue}
use Rattle.machine.proofs.Tests.{if_elim}
use Rattle.display.specs.machine_laws.Lists.{Sub, end, skip, take as both}
use Rattle.display.specs.Display.{names}
use Rattle.words.specs.Words.{number}
use Rattle.words.proofs.Laws.{Bytes, number_step, number-drop, number_keep}
use Rattle.lanes.specs.Lanes.{lanes, lane, word_of, counted, weights, Balanced}

-- ---- a bit of an OR, and the channels that combinations name

two_bits : (a b : ℕ) → a < 2 → b < 2 → eqb (bit_or a b) 1 ≡ (eqb a 1 || eqb b 1)
two_bits zero zero h k = refl
two_bits zero (suc zero) h k = refl
two_bits zero (suc (suc b)) h k = absurd (omega arith)
two_bits (suc zero) zero h k = refl
two_bits (suc zero) (suc zero) h k = refl
two_bits (suc zero) (suc (suc b)) h k = absurd (omega arith)
two_bits (suc (suc a)) b h k = absurd (omega arith)

pub or_odd : (a b c : ℕ) → odd (bit_or a b / 2 ^ c) ≡ (odd (a / 2 ^ c) || odd (b / 2 ^ c))
unfolding odd
or_odd a b c =
    let e : bit_or a b / 2 ^ c % 2 ≡ bit_or (a / 2 ^ c % 2) (b / 2 ^ c % 2) = ap (λ (x : ℕ). x % 2) (or_shr a b c) ∙ or_mod (a / 2 ^ c) (b / 2 ^ c) 1 in
    ap (λ (x : ℕ). eqb x 1) e ∙ two_bits (a / 2 ^ c % 2) (b / 2 ^ c % 2) (omega arith) (omega arith)

or_or : (p q r : Bool) → ((p || q) || r) ≡ (p || (q || r))
or_or true q r = refl
or_or false q r = refl

or_no : (p : Bool) → (p || false) ≡ p
or_no true = refl
or_no false = refl

-- what was gathered, or one of those left, names the channel exactly where one of all does
pub record Gathered (ms : List ℕ) (a i : ℕ) : Type 0 where
  pub rest : (c : ℕ) → (odd (a / 2 ^ c) || any (λ m. odd (m / 2 ^ c)) (drop i ms)) ≡ any (λ m. odd (m / 2 ^ c)) ms

nothing : (c : ℕ) → odd (0 / 2 ^ c) ≡ false
unfolding odd
nothing c = ap (λ (x : ℕ). eqb (x % 2) 1) (zero-div (2 ^ c))

pub gathered_start : (ms : List ℕ) → Gathered ms 0 0
gathered_start ms = record { rest = λ c. ap (λ (b : Bool). b || any (λ m. odd (m / 2 ^ c)) ms) (nothing c) }

any_front : (ms : List ℕ) (i c : ℕ) → i < length ms → (odd (get_or ms i 0 / 2 ^ c) || any (λ m. odd (m / 2 ^ c)) (drop (suc i) ms)) ≡ any (λ m. odd (m / 2 ^ c)) (drop i ms)
unfolding any
any_front ms i c h = rw (drop-cons ms i 0 h) refl

module _ {ms : List ℕ} {a i : ℕ} (g : Gathered ms a i) where
  pub gathered_more : i < length ms → Gathered ms (bit_or a (get_or ms i 0)) (i + 1)
  gathered_more h =
      let e : i + 1 ≡ suc i = omega arith in
      record {
        rest = λ c.
            ap₂ (λ (x : Bool) (k : ℕ). x || any (λ m. odd (m / 2 ^ c)) (drop k ms)) (or_odd a (get_or ms i 0) c) e
            ∙ (or_or (odd (a / 2 ^ c)) (odd (get_or ms i 0 / 2 ^ c)) (any (λ m. odd (m / 2 ^ c)) (drop (suc i) ms))
            ∙ (ap (λ (x : Bool). odd (a / 2 ^ c) || x) (any_front ms i c h) ∙ g.rest c));
      }

  pub gathered_end : length ms ≤ i → (c : ℕ) → odd (a / 2 ^ c) ≡ any (λ m. odd (m / 2 ^ c)) ms
  unfolding any
  gathered_end h c = sym (or_no (odd (a / 2 ^ c))) ∙ (rw (drop_of_length-le ms h) at (g.rest c))

-- ---- lanes

pub lanes_same : {f g : ℕ → ℕ} → ((c : ℕ) → f c ≡ g c) → number (lanes f) ≡ number (lanes g)
unfolding number
lanes_same e = omega (arith, e 0, e 1, e 2, e 3, e 4, e 5, e 6, e 7)

pub lanes_add : (f g : ℕ → ℕ) → number (lanes f) + number (lanes g) ≡ number (lanes (λ c. f c + g c))
unfolding number
lanes_add f g = omega arith

-- what is read of a lane is what stands in it
lanes_byte : (f : ℕ → ℕ) → ((c : ℕ) → f c < 256) → Bytes (lanes f)
lanes_byte f h zero = h 0
lanes_byte f h (suc zero) = h 1
lanes_byte f h (suc (suc zero)) = h 2
lanes_byte f h (suc (suc (suc zero))) = h 3
lanes_byte f h (suc (suc (suc (suc zero)))) = h 4
lanes_byte f h (suc (suc (suc (suc (suc zero))))) = h 5
lanes_byte f h (suc (suc (suc (suc (suc (suc zero)))))) = h 6
lanes_byte f h (suc (suc (suc (suc (suc (suc (suc zero))))))) = h 7
lanes_byte f h (suc (suc (suc (suc (suc (suc (suc (suc i)))))))) = omega arith

lanes_at : (f : ℕ → ℕ) (c : ℕ) → c < 8 → get_or (lanes f) c 0 ≡ f c
lanes_at f zero h = refl
lanes_at f (suc zero) h = refl
lanes_at f (suc (suc zero)) h = refl
lanes_at f (suc (suc (suc zero))) h = refl
lanes_at f (suc (suc (suc (suc zero)))) h = refl
lanes_at f (suc (suc (suc (suc (suc zero))))) h = refl
lanes_at f (suc (suc (suc (suc (suc (suc zero)))))) h = refl
lanes_at f (suc (suc (suc (suc (suc (suc (suc zero))))))) h = refl
lanes_at f (suc (suc (suc (suc (suc (suc (suc (suc i)))))))) h = absurd (omega arith)

pub lane_is : (f : ℕ → ℕ) → ((c : ℕ) → f c < 256) → (c : ℕ) → c < 8 → lane c (number (lanes f)) ≡ f c
unfolding number
lane_is f h c k =
    let b = lanes_byte f h in
    let d : Bytes (drop c (lanes f)) = λ i. subst (λ (x : ℕ). x < 256) (sym (lib.Seq.get_or-drop c (lanes f) i 0)) (b (c + i)) in
    let e : number (lanes f) / 256 ^ c % 256 ≡ number (take 1 (drop c (lanes f))) = ap (λ (x : ℕ). x % 256) (number-drop (lanes f) c b) ∙ number_keep (drop c (lanes f)) 1 d in
    let s = number_step (lanes f) c 0 in
    let a = lanes_at f c k in
    omega (arith, e, s, a)

-- ---- words and weights

bit_value : (x : ℕ) → (if odd x then 1 else 0) ≡ x % 2
unfolding odd
bit_value x = by (x % 2) (omega arith)
  where
    by : (y : ℕ) → y < 2 → (if eqb y 1 then 1 else 0) ≡ y
    by zero h = refl
    by (suc zero) h = refl
    by (suc (suc y)) h = absurd (omega arith)

-- a map by itself has its lowest bit
pub bits_lanes : (m : ℕ) → number (m % 2 ∷ m / 2 % 2 ∷ m / 4 % 2 ∷ m / 8 % 2 ∷ m / 16 % 2 ∷ m / 32 % 2 ∷ m / 64 % 2 ∷ m / 128 % 2 ∷ []) ≡ number (lanes (λ c. m / 2 ^ c % 2))
bits_lanes m = ap (λ (x : ℕ). number (x % 2 ∷ m / 2 % 2 ∷ m / 4 % 2 ∷ m / 8 % 2 ∷ m / 16 % 2 ∷ m / 32 % 2 ∷ m / 64 % 2 ∷ m / 128 % 2 ∷ [])) (sym (div-one m))

pub spread_is : (m : ℕ) (ms : List ℕ) → ((c : ℕ) → odd (m / 2 ^ c) ≡ any (λ x. odd (x / 2 ^ c)) ms) → number (lanes (λ c. m / 2 ^ c % 2)) ≡ word_of ms
unfolding word_of
spread_is m ms e = lanes_same (λ c. sym (bit_value (m / 2 ^ c)) ∙ ap (λ (b : Bool). if b then 1 else 0) (e c))

first_lanes : (r : Request) (f : ℕ → ℕ) → word_of r.combos + number (lanes f) ≡ number (lanes (λ c. (if names c r then 1 else 0) + f c))
unfolding word_of names
first_lanes r f = lanes_add (λ c. if any (λ m. odd (m / 2 ^ c)) r.combos then 1 else 0) f

counted_first : (c : ℕ) (r : Request) (rs : List Request) → counted c (r ∷ rs) ≡ (if names c r then 1 else 0) + counted c rs
unfolding keep
counted_first c r rs = by (names c r)
  where
    by : (b : Bool) → length (if b then r ∷ keep (names c) rs else keep (names c) rs) ≡ (if b then 1 else 0) + counted c rs
    by true = omega arith
    by false = omega arith

-- the number of a list of requests has in each lane how many name its channel
pub weights-lanes : (rs : List Request) → weights rs ≡ number (lanes (λ c. counted c rs))
unfolding weights keep number
weights-lanes [] = refl
weights-lanes (r ∷ rs) =
    ap (λ (x : ℕ). word_of r.combos + x) (weights-lanes rs) ∙ (first_lanes r (λ c. counted c rs) ∙ lanes_same (λ c. sym (counted_first c r rs)))

one : (x : Bool) → (if x then 1 else 0) ≤ 1
one true = omega arith
one false = omega arith

none : (c : ℕ) → counted c [] ≡ 0
unfolding keep
none c = refl

pub word_most : (ms : List ℕ) → word_of ms ≤ 72340172838076673
unfolding word_of number
word_most ms =
    let b : ℕ → Bool = λ c. any (λ m. odd (m / 2 ^ c)) ms in
    omega (arith, one (b 0), one (b 1), one (b 2), one (b 3), one (b 4), one (b 5), one (b 6), one (b 7))

pub weights_most : (rs : List Request) → weights rs ≤ length rs * 72340172838076673
unfolding weights
weights_most [] = omega arith
weights_most (r ∷ rs) = omega (arith, word_most r.combos, weights_most rs)

-- ---- one leaves, or joins

pub weights_out : (d : Request) (rs : List Request) (i : ℕ) → i < length rs → weights (take i rs ++ drop (suc i) rs) + word_of (get_or rs i d).combos ≡ weights rs
unfolding weights
weights_out d [] i h = absurd (omega arith)
weights_out d (r ∷ rs) zero h = omega arith
weights_out d (r ∷ rs) (suc i) h = omega (arith, weights_out d rs i (omega arith))

pub weights_in : (r : Request) (rs : List Request) → weights (enqueue r rs) ≡ weights rs + word_of r.combos
unfolding weights enqueue
weights_in r [] = omega arith
weights_in r (w ∷ ws) =
    if_elim (λ (us : List Request). weights us ≡ word_of w.combos + weights ws + word_of r.combos) (ltb w.prec r.prec) (λ _. omega arith)
    (λ _. omega (arith, weights_in r ws))

-- ---- how many name a channel, among fewer, and with one more

pub counted_sub : (c : ℕ) {us vs : List Request} → Sub us vs → counted c us ≤ counted c vs
unfolding keep
counted_sub c end = omega arith
counted_sub c (skip {x = r} {xs = us} {ys = vs} h) = omega (arith, counted_first c r vs, counted_sub c h)
counted_sub c (both {x = r} {xs = us} {ys = vs} h) = omega (arith, counted_first c r us, counted_first c r vs, counted_sub c h)

pub counted_in_lem : (c : ℕ) (r : Request) (rs : List Request) → counted c (enqueue r rs) ≡ counted c rs + counted c (r ∷ [])
unfolding enqueue
counted_in_lem c r [] = omega (arith, none c)
counted_in_lem c r (w ∷ ws) =
    if_elim (λ (us : List Request). counted c us ≡ counted c (w ∷ ws) + counted c (r ∷ [])) (ltb w.prec r.prec) (λ _. omega (arith, counted_first c r (w ∷ ws), counted_first c r [], none c))
    (λ _. omega (arith, counted_first c w (enqueue r ws), counted_first c w ws, counted_in_lem c r ws))

pub counted_most : (c : ℕ) (rs : List Request) → counted c rs ≤ length rs
unfolding keep
counted_most c [] = omega arith
counted_most c (r ∷ rs) = omega (arith, counted_first c r rs, counted_most c rs, one (names c r))

-- ---- what leaves and what joins, lane by lane

module _ {vs ts : List Request} {l j : ℕ} (b : Balanced vs ts l j) where
  abbrev went : ℕ → ℕ
  went c = counted c vs + counted c b.js - counted c ts

  went_is : (c : ℕ) → went c + counted c ts ≡ counted c vs + counted c b.js
  went_is c = omega (arith, b.less c)

  left_is : l ≡ number (lanes went)
  left_is =
      let w = lanes_add went (λ c. counted c ts) ∙ (lanes_same went_is ∙ sym (lanes_add (λ c. counted c vs) (λ c. counted c b.js))) in
      omega (arith, w, weights-lanes vs, weights-lanes ts, weights-lanes b.js, b.joins, b.balance)

  pub balanced_lane : length vs ≤ 64 → (c : ℕ) → c < 8 → counted c ts + lane c l ≡ counted c vs + lane c j
  balanced_lane h c k =
      let e : lane c l ≡ went c = ap (lane c) left_is ∙ lane_is went (λ i. omega (arith, went_is i, counted_most i vs, counted_most i b.js, b.few)) c k in
      let f : lane c j ≡ counted c b.js = ap (lane c) (b.joins ∙ weights-lanes b.js) ∙ lane_is (λ i. counted i b.js) (λ i. omega (arith, counted_most i b.js, b.few)) c k in
      omega (arith, e, f, went_is c)

-- nobody came or went
pub balanced_same : (vs : List Request) → Balanced vs vs 0 0
unfolding weights
balanced_same vs = record { js = []; few = omega arith; joins = refl; less = λ c. omega arith; balance = refl }
