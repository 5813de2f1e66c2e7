-- Why a call that leaves the state is not seen by the others: the calls behind it begin in the state in which they would begin
-- without it. The display's numbers are corrected by nothing, and a call that settles sets the looks whatever they were. The tables
-- of Needed.antt are named here so that they are computed first: a wrong definition is told by an example.
-- Assumes nothing.
use Prim.Native.Nat.{ℕ, zero, suc, ◌+◌, ◌≤◌, ◌<◌}
use mathlib.Core.Path.{◌≡◌, refl, ap, ap₂, subst, sym, ◌∙◌}
use mathlib.Core.Bool.{Bool, true, false, not, ◌||◌}
use mathlib.Core.List.{List, [], ◌∷◌, ◌++◌}
use native.Mathlib.Omega.{arith}
use lib.Dec.{T, T_not, eqb, eqb→eq, eqb_refl}
use lib.ListN.{length, replicate, take}
use Rattle.machine.specs.Lists.{all}
use Rattle.machine.specs.State.{State, Outcome, Reply, Call, Op, OPEN, CLOSE, ABORT, EVENT, COMMAND}
use Rattle.machine.specs.Sound.{sound, ids}
use Rattle.machine.specs.Numbers.{UNSOUND}
use Rattle.machine.specs.Refusals.{Refusal, refused, first, refusal}
use Rattle.machine.specs.Call.{answering, call}
use Rattle.machine.proofs.Tests.{and_both, and_left, and_right, by_test, test_true, test_false}
use Rattle.machine.specs.InBytes.{two_bytes}
use Rattle.display.specs.machine_laws.Lists.{count}
use Rattle.display.proofs.machine_laws.Counting.{count_other, count_cons, count_nil}
use Rattle.display.proofs.machine_laws.Refusals.{refuse-mute}
use Rattle.display.specs.machine_laws.Replies.{heard}
use Rattle.display.proofs.machine_laws.Replies.{own, call-counts}
use Rattle.display.specs.Display.{NUMBERS, DISPLAY, blank, corrected, looks_of, displayed, Bytes}
use Rattle.display.proofs.Display.{displayed-length, displayed-numbers, displayed-bytes, displayed-refused}
use Rattle.display.specs.Runs.{after_calls, shown_after}
use Rattle.nothing_left.specs.Settles.{settles}
use Rattle.nothing_left.proofs.Settles.{settles-looks}
use Rattle.slipped.specs.Slipped.{outcomes, leaving_out, settles_one, Inserted}
use Rattle.slipped.proofs.Needed.{settling_behind}

-- ---- runs made of two

pub after-append : (s : State) (xs ys : List Call) → after_calls s (xs ++ ys) ≡ after_calls (after_calls s xs) ys
unfolding after_calls
after-append s [] ys = refl
after-append s (x ∷ xs) ys = after-append (call s x).next xs ys

shown-append : (s : State) (xs ys : List Call) (d : List ℕ) → shown_after s (xs ++ ys) d ≡ shown_after (after_calls s xs) ys (shown_after s xs d)
unfolding after_calls shown_after
shown-append s [] ys d = refl
shown-append s (x ∷ xs) ys d = shown-append (call s x).next xs ys (displayed s x d)

outcomes-append : (s : State) (xs ys : List Call) → outcomes s (xs ++ ys) ≡ outcomes s xs ++ outcomes (after_calls s xs) ys
unfolding after_calls outcomes
outcomes-append s [] ys = refl
outcomes-append s (x ∷ xs) ys = ap (λ (os : List Outcome). call s x ∷ os) (outcomes-append (call s x).next xs ys)

outcomes-length : (s : State) (xs : List Call) → length (outcomes s xs) ≡ length xs
unfolding outcomes
outcomes-length s [] = refl
outcomes-length s (x ∷ xs) = ap suc (outcomes-length (call s x).next xs)

pub leaving_middle {ℓ} : {A : Type ℓ} (k : ℕ) (xs : List A) (y : A) (ys : List A) → length xs ≡ k → leaving_out k (xs ++ y ∷ ys) ≡ xs ++ ys
unfolding leaving_out
leaving_middle zero [] y ys e = refl
leaving_middle zero (x ∷ xs) y ys e = absurd (omega arith)
leaving_middle (suc k) [] y ys e = absurd (omega arith)
leaving_middle {A = A} (suc k) (x ∷ xs) y ys e = ap (λ (zs : List A). x ∷ zs) (leaving_middle k xs y ys (omega arith))

-- ---- the display

-- 18 bytes, as every display from a fresh device on
record Fit (d : List ℕ) : Type 0 where
  long : length d ≡ DISPLAY
  bytes : Bytes d

shown_fit : (s : State) (xs : List Call) (d : List ℕ) → Fit d → Fit (shown_after s xs d)
unfolding shown_after
shown_fit s [] d f = f
shown_fit s (x ∷ xs) d f =
    shown_fit (call s x).next xs (displayed s x d) (record { long = displayed-length s x d f.long; bytes = displayed-bytes s x d f.long f.bytes })

-- a state that did not change corrects nothing
corrected_same : (s : State) (j : ℕ) (bs : List ℕ) → Bytes bs → corrected s s j bs ≡ bs
unfolding corrected
corrected_same s j [] h = refl
corrected_same s j (b ∷ bs) h =
    ap₂ (λ (x : ℕ) (xs : List ℕ). x ∷ xs) (let l : b < 256 = h 0 in omega arith) (corrected_same s (suc j) bs (λ i. h (suc i)))

take-bytes : (n : ℕ) (xs : List ℕ) → Bytes xs → Bytes (take n xs)
take-bytes zero xs h i = omega arith
take-bytes (suc n) [] h i = omega arith
take-bytes (suc n) (x ∷ xs) h zero = h 0
take-bytes (suc n) (x ∷ xs) h (suc i) = take-bytes n xs (λ j. h (suc j)) i

-- two displays alike in their numbers stay so
numbers-alike : (s : State) (xs : List Call) (d e : List ℕ) → Fit d → Fit e → take NUMBERS d ≡ take NUMBERS e
    → take NUMBERS (shown_after s xs d) ≡ take NUMBERS (shown_after s xs e)
unfolding shown_after
numbers-alike s [] d e f g q = q
numbers-alike s (x ∷ xs) d e f g q =
    numbers-alike (call s x).next xs (displayed s x d) (displayed s x e)
    (record { long = displayed-length s x d f.long; bytes = displayed-bytes s x d f.long f.bytes })
    (record { long = displayed-length s x e g.long; bytes = displayed-bytes s x e g.long g.bytes })
    (displayed-numbers s x d f.long ∙ ap (corrected s (call s x).next 0) q ∙ sym (displayed-numbers s x e g.long))

-- and a call that settles makes them the same
settled_alike : (s : State) (x : Call) (d e : List ℕ) → T (settles s x) → take NUMBERS d ≡ take NUMBERS e → displayed s x d ≡ displayed s x e
unfolding displayed
settled_alike s x d e t q =
    ap₂ (λ (ns : List ℕ) (k : ℕ). corrected s (call s x).next 0 ns ++ two_bytes k) q (settles-looks s x t (looks_of d) ∙ sym (settles-looks s x t (looks_of e)))

shown-alike : (s : State) (xs : List Call) (d e : List ℕ) → Fit d → Fit e → take NUMBERS d ≡ take NUMBERS e → T (settles_one s xs)
    → shown_after s xs d ≡ shown_after s xs e
unfolding shown_after settles_one
shown-alike s [] d e f g q t = absurd t
shown-alike s (x ∷ xs) d e f g q t =
    by_test (settles s x)
    (λ u. ap (shown_after (call s x).next xs) (settled_alike s x d e u q))
    (λ u. shown-alike (call s x).next xs (displayed s x d) (displayed s x e)
    (record { long = displayed-length s x d f.long; bytes = displayed-bytes s x d f.long f.bytes })
    (record { long = displayed-length s x e g.long; bytes = displayed-bytes s x e g.long g.bytes })
    (displayed-numbers s x d f.long ∙ ap (corrected s (call s x).next 0) q ∙ sym (displayed-numbers s x e g.long))
    (other (settles s x) (settles_one (call s x).next xs) u t))
  where
    other : (a b : Bool) → T (not a) → T (a || b) → T b
    other true b n t = absurd n
    other false b n t = t

-- ---- the replies of a call that leaves the state

count_self : (x : ℕ) → count x (x ∷ []) ≡ 1
unfolding count
count_self x = rw (test_true (eqb x x) (eqb_refl x)) refl

-- replies that no id gets more often than one id alone are to that id
each_to : (x : ℕ) (rs : List Reply) → ((i : ℕ) → count i (heard rs) ≤ count i (x ∷ [])) → T (all (λ r. eqb r.id x) rs)
unfolding all
each_to x [] h = tt
each_to x (r ∷ rs) h =
    let a = count_cons r.id r.id (heard rs) in
    let b = count_self r.id in
    let g = h r.id in
    and_both (eqb r.id x) (all (λ q. eqb q.id x) rs)
    (by_test (eqb r.id x) (λ t. t)
    (λ t. absurd (let z = count_other r.id x (λ q. T_not (eqb r.id x) t (subst (λ (y : ℕ). T (eqb r.id y)) q (eqb_refl r.id))) in omega arith)))
    (each_to x rs (λ i. let c = count_cons i r.id (heard rs) in let k = h i in omega arith))

-- and as many as it gets
count_to : (x : ℕ) (rs : List Reply) → T (all (λ r. eqb r.id x) rs) → count x (heard rs) ≡ length rs
unfolding all
count_to x [] t = count_nil x
count_to x (r ∷ rs) t =
    let e = eqb→eq r.id x (and_left (eqb r.id x) (all (λ q. eqb q.id x) rs) t) in
    let ih = count_to x rs (and_right (eqb r.id x) (all (λ q. eqb q.id x) rs) t) in
    let a = count_cons x r.id (heard rs) in
    let b : count x (r.id ∷ []) ≡ 1 = ap (λ (y : ℕ). count x (y ∷ [])) e ∙ count_self x in
    omega arith

own_few : (i : ℕ) (o : Op) (c : Call) → count i (own o c) ≤ count i (c.id ∷ [])
unfolding own
own_few i OPEN c = let z = count_nil i in omega arith
own_few i CLOSE c = let z = count_nil i in omega arith
own_few i ABORT c = let z = count_nil i in omega arith
own_few i (EVENT v) c = let z = count_nil i in omega arith
own_few i (COMMAND n) c = omega arith

-- every call in a state that is not sound is refused with 1
pub unsound-refused : (o : Op) (c : Call) (s : State) → T (not (sound s)) → refusal o c s ≡ refused UNSOUND
unfolding refusal first
unsound-refused OPEN c s t = rw (test_false (sound s) t) refl
unsound-refused CLOSE c s t = rw (test_false (sound s) t) refl
unsound-refused ABORT c s t = rw (test_false (sound s) t) refl
unsound-refused (EVENT v) c s t = rw (test_false (sound s) t) refl
unsound-refused (COMMAND n) c s t = rw (test_false (sound s) t) refl

refused-mute : (s : State) (c : Call) → T (not (sound s)) → (call s c).replies ≡ []
unfolding call answering
refused-mute s c t = ap (λ (r : Refusal). (answering r c s).replies) (unsound-refused c.op c s t) ∙ refuse-mute c.op UNSOUND c s tt

module _ (s : State) (c : Call) (e : (call s c).next ≡ s) where
  own_count : T (sound s) → (i : ℕ) → count i (heard (call s c).replies) ≤ count i (c.id ∷ [])
  own_count t i =
      let k = call-counts i s c t in
      let f = own_few i c.op c in
      let g : count i (ids (call s c).next) ≡ count i (ids s) = ap (λ (u : State). count i (ids u)) e in
      omega arith

  own_each : T (all (λ r. eqb r.id c.id) (call s c).replies)
  own_each =
      by_test (sound s) (λ t. each_to c.id (call s c).replies (own_count t))
      (λ t. rw (refused-mute s c t) (unfold all in tt))

  own_once : length (call s c).replies ≤ 1
  own_once =
      by_test (sound s)
      (λ t. let a = count_to c.id (call s c).replies (each_to c.id (call s c).replies (own_count t)) in
      let b = own_count t c.id in
      let k = count_self c.id in
      omega arith)
      (λ t. rw (refused-mute s c t) (omega arith))

-- ---- a call that leaves the state is not seen

zero_bytes : (n : ℕ) → Bytes (replicate n 0)
zero_bytes zero i = omega arith
zero_bytes (suc n) zero = omega arith
zero_bytes (suc n) (suc i) = zero_bytes n i

blank_fit : Fit blank
blank_fit = record { long = refl; bytes = zero_bytes DISPLAY }

module _ (s : State) (before : List Call) (c : Call) (behind : List Call) (e : (call (after_calls s before) c).next ≡ after_calls s before) where
  abbrev t₀ : State
  t₀ = after_calls s before

  abbrev d₀ : List ℕ
  d₀ = shown_after s before blank

  others_same : leaving_out (length before) (outcomes s (before ++ c ∷ behind)) ≡ outcomes s (before ++ behind)
  unfolding outcomes
  others_same =
      ap (leaving_out (length before)) (outcomes-append s before (c ∷ behind))
      ∙ leaving_middle (length before) (outcomes s before) (call t₀ c) (outcomes (call t₀ c).next behind) (outcomes-length s before)
      ∙ ap (λ (u : State). outcomes s before ++ outcomes u behind) e
      ∙ sym (outcomes-append s before behind)

  state_same : after_calls s (before ++ c ∷ behind) ≡ after_calls s (before ++ behind)
  unfolding after_calls
  state_same =
      after-append s before (c ∷ behind) ∙ ap (λ (u : State). after_calls u behind) e ∙ sym (after-append s before behind)

  fit_before : Fit d₀
  fit_before = shown_fit s before blank blank_fit

  fit_inserted : Fit (displayed t₀ c d₀)
  fit_inserted = record { long = displayed-length t₀ c d₀ fit_before.long; bytes = displayed-bytes t₀ c d₀ fit_before.long fit_before.bytes }

  -- its display has the numbers that stood before
  numbers_same : take NUMBERS (displayed t₀ c d₀) ≡ take NUMBERS d₀
  numbers_same =
      displayed-numbers t₀ c d₀ fit_before.long ∙ ap (λ (u : State). corrected t₀ u 0 (take NUMBERS d₀)) e
      ∙ corrected_same t₀ 0 (take NUMBERS d₀) (take-bytes NUMBERS d₀ fit_before.bytes)

  shown_with : shown_after s (before ++ c ∷ behind) blank ≡ shown_after t₀ behind (displayed t₀ c d₀)
  unfolding shown_after
  shown_with =
      shown-append s before (c ∷ behind) blank ∙ ap (λ (u : State). shown_after u behind (displayed t₀ c d₀)) e

  shown_without : shown_after s (before ++ behind) blank ≡ shown_after t₀ behind d₀
  shown_without = shown-append s before behind blank

  pub unmoved_inserted : Inserted s before c behind
  unmoved_inserted =
      record {
        others = others_same;
        state = state_same;
        own = own_each t₀ c e;
        once = own_once t₀ c e;
        numbers =
            ap (take NUMBERS) shown_with
            ∙ numbers-alike t₀ behind (displayed t₀ c d₀) d₀ fit_inserted fit_before numbers_same
            ∙ ap (take NUMBERS) (sym shown_without);
        looks = λ t. shown_with ∙ shown-alike t₀ behind (displayed t₀ c d₀) d₀ fit_inserted fit_before numbers_same t ∙ sym shown_without;
      }

  -- a refused one leaves the looks too
  pub refused-shown : (x : ℕ) → refusal c.op c t₀ ≡ refused x → shown_after s (before ++ c ∷ behind) blank ≡ shown_after s (before ++ behind) blank
  refused-shown x q =
      shown_with ∙ ap (shown_after t₀ behind) (displayed-refused t₀ c d₀ fit_before.long x q fit_before.bytes) ∙ sym shown_without
