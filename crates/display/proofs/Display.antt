-- The display after a call: 18 bytes; numbers that agreed with a count agree again, others are off by as much; the looks are those of the
-- call. A refused call leaves it, the length of the reply list is not read, and no other 18 bytes do all this.
-- Assumes nothing.
--
--   Bytes bs    each number of the list is a byte
use Prim.Native.Nat.{ℕ, zero, suc, ◌+◌, ◌*◌, ◌%◌, ◌≤◌, ◌<◌}
use mathlib.Core.Path.{◌≡◌, refl, ap, ap₂, subst, sym, ◌∙◌}
use mathlib.Core.List.{List, [], ◌∷◌, ◌++◌}
use native.Mathlib.Omega.{arith}
use lib.Dec.{T, ltb, ltb→lt, nltb→le}
use lib.ListN.{length, get_or, take, length-append, get_or-append}
use Rattle.widening.specs.machine.State.{State, Call, fresh_on}
use Rattle.widening.specs.machine.Sound.{sound}
use Rattle.widening.specs.machine.Refusals.{Refusal, refused, refusal}
use Rattle.widening.specs.machine.Call.{answering, call, in_range}
use Rattle.widening.proofs.machine.Tests.{by_test}
use Rattle.widening.specs.machine.InBytes.{two_bytes}
use Rattle.widening.proofs.machine_laws.Sound.{parts}
use Rattle.widening.proofs.machine_laws.Refusals.{refuse_same}
use Rattle.widening.specs.machine_laws.Keeping.{Counted}
use Rattle.widening.proofs.machine_laws.KeepingCalls.{call-sound}
use Rattle.display.specs.Looks.{looked}
use Rattle.display.specs.Display.{NUMBERS, DISPLAY, blank, number, numbers, corrected, looks_of, displayed, Bytes}
use Rattle.display.proofs.Looks.{looked_most, looked-refused}
use Rattle.display.proofs.Numbers.{number_most, corrected-length, corrected_at, corrected_byte, corrected_agrees, fresh-numbers}

-- ---- lists

pub take-length : (n : ℕ) (xs : List ℕ) → n ≤ length xs → length (take n xs) ≡ n
take-length zero xs h = refl
take-length (suc n) [] h = absurd (omega arith)
take-length (suc n) (x ∷ xs) h = ap suc (take-length n xs (omega arith))

take_front : (n : ℕ) (xs ys : List ℕ) → length xs ≡ n → take n (xs ++ ys) ≡ xs
take_front zero [] ys e = refl
take_front zero (x ∷ xs) ys e = absurd (omega arith)
take_front (suc n) [] ys e = absurd (omega arith)
take_front (suc n) (x ∷ xs) ys e = ap (λ (zs : List ℕ). x ∷ zs) (take_front n xs ys (omega arith))

get_d_take : (n i : ℕ) (xs : List ℕ) → i < n → get_or (take n xs) i 0 ≡ get_or xs i 0
get_d_take zero i xs h = absurd (omega arith)
get_d_take (suc n) i [] h = refl
get_d_take (suc n) zero (x ∷ xs) h = refl
get_d_take (suc n) (suc i) (x ∷ xs) h = get_d_take n i xs (omega arith)

get_d_behind : (n i : ℕ) (xs ys : List ℕ) → length xs ≡ n → get_or (xs ++ ys) (n + i) 0 ≡ get_or ys i 0
get_d_behind zero i [] ys e = ap (λ (x : ℕ). get_or ys x 0) (let q : 0 + i ≡ i = omega arith in q)
get_d_behind zero i (x ∷ xs) ys e = absurd (omega arith)
get_d_behind (suc n) i [] ys e = absurd (omega arith)
get_d_behind (suc n) i (x ∷ xs) ys e =
    ap (λ (j : ℕ). get_or (x ∷ xs ++ ys) j 0) (let q : suc n + i ≡ suc (n + i) = omega arith in q) ∙ get_d_behind n i xs ys (omega arith)

append-bytes : (xs ys : List ℕ) → Bytes xs → Bytes ys → Bytes (xs ++ ys)
append-bytes [] ys h k i = k i
append-bytes (x ∷ xs) ys h k zero = h 0
append-bytes (x ∷ xs) ys h k (suc i) = append-bytes xs ys (λ j. h (suc j)) k i

take-bytes : (n : ℕ) (xs : List ℕ) → Bytes xs → Bytes (take n xs)
take-bytes zero xs h i = omega arith
take-bytes (suc n) [] h i = omega arith
take-bytes (suc n) (x ∷ xs) h zero = h 0
take-bytes (suc n) (x ∷ xs) h (suc i) = take-bytes n xs (λ j. h (suc j)) i

looks-bytes : (k : ℕ) → k < 65536 → Bytes (two_bytes k)
looks-bytes k h zero = omega arith
looks-bytes k h (suc zero) = omega arith
looks-bytes k h (suc (suc i)) = omega arith

-- two lists of 18 that have the same at each place are the same
same_places : (xs ys : List ℕ) → length xs ≡ length ys → ((i : ℕ) → i < length ys → get_or xs i 0 ≡ get_or ys i 0) → xs ≡ ys
same_places [] [] e h = refl
same_places [] (y ∷ ys) e h = absurd (omega arith)
same_places (x ∷ xs) [] e h = absurd (omega arith)
same_places (x ∷ xs) (y ∷ ys) e h =
    ap₂ (λ (z : ℕ) (zs : List ℕ). z ∷ zs) (h 0 (omega arith)) (same_places xs ys (omega arith) (λ i l. h (suc i) (omega arith)))

-- ---- displayed: its places

pub refused-stays : (s : State) (c : Call) (e : ℕ) → refusal c.op c s ≡ refused e → (call s c).next ≡ s
unfolding call answering
refused-stays s c e f = ap (λ (r : Refusal). (answering r c s).next) f ∙ refuse_same c.op e c s

module _ (s : State) (c : Call) (d : List ℕ) (long : length d ≡ DISPLAY) where
  numbers-long : length (corrected s (call s c).next 0 (take NUMBERS d)) ≡ NUMBERS
  numbers-long = corrected-length s (call s c).next 0 (take NUMBERS d) ∙ take-length NUMBERS d (omega arith)

  pub displayed-length : length (displayed s c d) ≡ DISPLAY
  unfolding displayed
  displayed-length =
      length-append (corrected s (call s c).next 0 (take NUMBERS d)) (two_bytes (looked s c (looks_of d)))
      ∙ ap (λ (n : ℕ). n + 2) numbers-long

  pub displayed-numbers : take NUMBERS (displayed s c d) ≡ corrected s (call s c).next 0 (take NUMBERS d)
  unfolding displayed
  displayed-numbers = take_front NUMBERS (corrected s (call s c).next 0 (take NUMBERS d)) (two_bytes (looked s c (looks_of d))) numbers-long

  pub displayed_at : (j : ℕ) → j < NUMBERS → get_or (displayed s c d) j 0 ≡ (get_or d j 0 + number j (call s c).next + 255 * number j s) % 256
  unfolding displayed
  displayed_at j h =
      get_or-append (corrected s (call s c).next 0 (take NUMBERS d))
      (two_bytes (looked s c (looks_of d))) 0 j (let e = numbers-long in omega arith)
      ∙ corrected_at s (call s c).next 0 (take NUMBERS d) j (let e = take-length NUMBERS d (omega arith) in omega arith)
      ∙ ap₂ (λ (b i : ℕ). (b + number i (call s c).next + 255 * number i s) % 256)
      (get_d_take NUMBERS j d h) (let e : 0 + j ≡ j = omega arith in e)

  -- "corrected at each call and never recounted": numbers that did not agree are off by as much
  pub displayed_off : (j : ℕ) → j < NUMBERS
      → (get_or (displayed s c d) j 0 + number j s) % 256 ≡ (get_or d j 0 + number j (call s c).next) % 256
  displayed_off j h = rw (displayed_at j h) (omega arith)

  pub displayed-looks : looks_of (displayed s c d) ≡ looked s c (looks_of d)
  unfolding displayed
  displayed-looks =
      let cs = corrected s (call s c).next 0 (take NUMBERS d) in
      let ls = two_bytes (looked s c (looks_of d)) in
      omega (arith, get_d_behind NUMBERS 0 cs ls numbers-long, get_d_behind NUMBERS 1 cs ls numbers-long)

  pub displayed-bytes : Bytes d → Bytes (displayed s c d)
  unfolding displayed
  displayed-bytes h =
      let a = h 16 in
      let b = h 17 in
      let l = looked_most 65535 (looks_of d) (omega arith) (omega arith) s c in
      append-bytes (corrected s (call s c).next 0 (take NUMBERS d)) (two_bytes (looked s c (looks_of d)))
      (corrected_byte s (call s c).next 0 (take NUMBERS d))
      (looks-bytes (looked s c (looks_of d)) (omega arith))

  -- "where they agreed with a count over the state before a call, have them agree after it"
  pub displayed_agrees : T (sound s) → T (in_range c) → Counted c.op c → take NUMBERS d ≡ numbers s
      → take NUMBERS (displayed s c d) ≡ numbers (call s c).next
  displayed_agrees a r y e =
      displayed-numbers ∙ ap (corrected s (call s c).next 0) e
      ∙ corrected_agrees s (call s c).next
      (λ j. omega (arith, number_most j (call s c).next (parts (call s c).next (call-sound s c r y a)))) NUMBERS 0

  -- no other 18 bytes do this
  pub displayed_only : (b : List ℕ) → length b ≡ DISPLAY → Bytes b → Bytes d
      → ((j : ℕ) → j < NUMBERS → (get_or b j 0 + number j s) % 256 ≡ (get_or d j 0 + number j (call s c).next) % 256)
      → looks_of b ≡ looked s c (looks_of d) → b ≡ displayed s c d
  displayed_only b e h g off k = same_places b (displayed s c d) (e ∙ sym displayed-length) place
    where
      same_byte : (x y n : ℕ) → x < 256 → y < 256 → (x + n) % 256 ≡ (y + n) % 256 → x ≡ y
      same_byte x y n l m q = omega arith

      place : (i : ℕ) → i < length (displayed s c d) → get_or b i 0 ≡ get_or (displayed s c d) i 0
      place i l =
          by_test (ltb i NUMBERS)
          (λ t. let q = ltb→lt i NUMBERS t in
          same_byte (get_or b i 0) (get_or (displayed s c d) i 0) (number i s) (h i) (displayed-bytes g i) (off i q ∙ sym (displayed_off i q)))
          (λ t. last i (nltb→le i NUMBERS t) (let z = displayed-length in omega arith))
        where
          two : (get_or b 16 0 ≡ get_or (displayed s c d) 16 0) × (get_or b 17 0 ≡ get_or (displayed s c d) 17 0)
          two =
              let z : looks_of b ≡ looks_of (displayed s c d) = k ∙ sym displayed-looks in
              (omega (arith, z, h 16, h 17, displayed-bytes g 16, displayed-bytes g 17), omega (arith, z, h 16, h 17, displayed-bytes g 16, displayed-bytes g 17))

          last : (i : ℕ) → NUMBERS ≤ i → i < DISPLAY → get_or b i 0 ≡ get_or (displayed s c d) i 0
          last i l m =
              by_test (ltb i 17)
              (λ t. let q = ltb→lt i 17 t in subst (λ (x : ℕ). get_or b x 0 ≡ get_or (displayed s c d) x 0) (let w : 16 ≡ i = omega arith in w) two.0)
              (λ t. let q = nltb→le i 17 t in subst (λ (x : ℕ). get_or b x 0 ≡ get_or (displayed s c d) x 0) (let w : 17 ≡ i = omega arith in w) two.1)

  -- a refused call leaves the display
  pub displayed-refused : (e : ℕ) → refusal c.op c s ≡ refused e → Bytes d → displayed s c d ≡ d
  displayed-refused e f h =
      sym
      (displayed_only d long h h (λ j l. ap (λ (u : State). (get_or d j 0 + number j u) % 256) (sym (refused-stays s c e f)))
      (sym (looked-refused s c (looks_of d) e f)))

-- ---- the fresh device

pub blank-length : length blank ≡ DISPLAY
blank-length = refl

pub blank_agrees : (n : ℕ) → take NUMBERS blank ≡ numbers (fresh_on n)
blank_agrees n = sym (fresh-numbers n)

pub blank-looks : looks_of blank ≡ 0
blank-looks = refl
