-- The walk from the left and the machine's choice from the right agree, and reading an option and making it are inverse.
-- Assumes nothing.
use Prim.Native.Nat.{ℕ, ◌≤◌, ◌<◌}
use mathlib.Core.Path.{◌≡◌, refl, ap, sym, subst, ◌∙◌}
use mathlib.Core.Logic.{⊎_elim}
use mathlib.Core.Bool.{Bool, true, false, ◌&&◌}
use mathlib.Core.List.{List, [], ◌∷◌}
use native.Mathlib.Omega.{arith}
use lib.Dec.{T, not_T}
use lib.ListN.{length}
use Rattle.std.specs.Prelude.{if◌then◌else◌, Option, None, Some, MatchOption}
use Rattle.pricing.specs.machine.State.{Channel, is_free}
use Rattle.pricing.specs.machine.Maps.{named}
use Rattle.pricing.specs.machine.Choosing.{Choice as ChoiceM, none, chosen, takeable, eligible, all_free, costs_less, first_free, cheaper, cheapest, or_else, choose}
use Rattle.pricing.specs.machine.Rule.{CostsLess}
use Rattle.pricing.proofs.machine.Tests.{test_true, by_test, test_false}
use Rattle.pricing.proofs.machine_laws.Maps.{named_mono}
use Rattle.pricing.proofs.machine_laws.Choosing.{less_iff, less_trans, less_between}
use Rattle.pricing.specs.Pricing.{Priced}
use Rattle.pricing.proofs.Laws.{price_less}
use Rattle.picking.specs.declared.Best.{Best}
use Rattle.picking.specs.Picking.{choice_of, choice_in, beat, Kept}

choice_in_of : (o : ChoiceM) → choice_in (choice_of o) ≡ o
choice_in_of none = refl
choice_in_of (chosen m) = refl

-- what a result of the code says of the choice that it is
pub read : (o : ChoiceM) {r s : Option ℕ} → r ≡ choice_of o → r ≡ s → o ≡ choice_in s
read o e f = sym (choice_in_of o) ∙ ap choice_in (sym e ∙ f)

-- ---- a combination of free channels is eligible at any precedence

free_takeable : (p : ℕ) (c : Channel) → T (is_free c) → T (takeable p c)
unfolding takeable
free_takeable p c t = rw (test_true (is_free c) t) tt

pub free_eligible : (p m : ℕ) (cs : List Channel) → (eligible p m cs && all_free m cs) ≡ all_free m cs
unfolding eligible all_free
free_eligible p m cs =
    by_test (named is_free m cs)
    (λ t. rw (test_true (named (takeable p) m cs) (named_mono is_free (takeable p) m cs (free_takeable p) t)))
    (λ t. let e = test_false (named is_free m cs) t in rw e (off (eligible p m cs)))
  where
    off : (b : Bool) → (b && false) ≡ false
    off true = refl
    off false = refl

-- ---- the best of three is the same from either end

module _ (cs : List Channel) where
  pub beat_none : (a : ChoiceM) → beat a none cs ≡ a
  unfolding beat cheaper
  beat_none none = refl
  beat_none (chosen m) = refl

  is_less : (m o : ℕ) → true ≡ costs_less m o cs → CostsLess m o cs
  is_less m o e = (less_iff m o cs).0 (subst T e tt)

  not_less : (m o : ℕ) → false ≡ costs_less m o cs → CostsLess m o cs → ⊥
  not_less m o e l = subst T (sym e) ((less_iff m o cs).1 l)

  three : (x y z : ℕ) (p q r : Bool) → p ≡ costs_less y x cs → q ≡ costs_less z y cs → r ≡ costs_less z x cs
      → beat (if p then chosen y else chosen x) (chosen z) cs ≡ beat (chosen x) (if q then chosen z else chosen y) cs
  unfolding beat cheaper
  three x y z true true true e f g = rw (← f, ← g)
  three x y z true true false e f g = absurd (not_less z x g (less_trans cs z y x (is_less z y f) (is_less y x e)))
  three x y z true false r e f g = rw (← e, ← f)
  three x y z false true r e f g = refl
  three x y z false false true e f g = absurd (⊎_elim (not_less z y f) (not_less y x e) (less_between cs z y x (is_less z x g)))
  three x y z false false false e f g = rw (← e, ← g)

  pub beat_assoc : (a b d : ChoiceM) → beat (beat a b cs) d cs ≡ beat a (beat b d cs) cs
  unfolding beat cheaper
  beat_assoc none b d = refl
  beat_assoc (chosen x) none d = refl
  beat_assoc (chosen x) (chosen y) none = beat_none (beat (chosen x) (chosen y) cs)
  beat_assoc (chosen x) (chosen y) (chosen z) = three x y z _ _ _ refl refl refl

  -- what a list chooses, by its first combination and the rest
  pub cheapest_cons : (p m : ℕ) (ms : List ℕ) → cheapest p (m ∷ ms) cs ≡ beat (cheapest p (m ∷ []) cs) (cheapest p ms cs) cs
  unfolding cheapest cheaper
  cheapest_cons p m ms = go (eligible p m cs)
    where
      go : (b : Bool) → (if b then cheaper m (cheapest p ms cs) cs else cheapest p ms cs) ≡ beat (if b then chosen m else none) (cheapest p ms cs) cs
      go true = unfold beat in refl
      go false = unfold beat in refl

  -- ---- one more combination, by the tests of the code

  wins : {m b c d : ℕ} → Priced m cs c → Priced b cs d → c < d → costs_less m b cs ≡ true
  wins {m} {b} q r h =
      let i = q.is in
      let j = r.is in
      test_true (costs_less m b cs) ((less_iff m b cs).1 ((price_less m b cs q.few r.few).1 (omega arith)))

  loses : {m b c d : ℕ} → Priced m cs c → Priced b cs d → d ≤ c → costs_less m b cs ≡ false
  loses {m} {b} q r h =
      let i = q.is in
      let j = r.is in
      test_false (costs_less m b cs) (not_T (costs_less m b cs)
      (λ t. let z = (price_less m b cs q.few r.few).0 ((less_iff m b cs).0 t) in omega arith))

  module _ (p m : ℕ) (best : Option Best) (o : ChoiceM) (k : Kept cs best o) where
    pub better_refused : eligible p m cs ≡ false → Kept cs best (beat o (cheapest p (m ∷ []) cs) cs)
    unfolding cheapest
    better_refused e = rw (e, beat_none o) k

    pub better_cheaper : {c : ℕ} → eligible p m cs ≡ true → Priced m cs c → MatchOption best (Unit {0}) (λ b. c < b.cost)
        → Kept cs (Some (record { map = m; cost = c })) (beat o (cheapest p (m ∷ []) cs) cs)
    unfolding cheapest cheaper
    better_cheaper {c} e q l = rw e (go best o k l)
      where
        go : (t : Option Best) (x : ChoiceM) → Kept cs t x → MatchOption t (Unit {0}) (λ b. c < b.cost)
            → Kept cs (Some (record { map = m; cost = c })) (beat x (chosen m) cs)
        go None none y l = unfold beat in (refl, q)
        go None (chosen b) y l = absurd y
        go (Some t) none y l = absurd y
        go (Some t) (chosen b) y l = unfold beat cheaper in rw (wins q y.1 l) (refl, q)

    pub better_stays : {c : ℕ} → eligible p m cs ≡ true → Priced m cs c → MatchOption best ⊥ (λ b. b.cost ≤ c)
        → Kept cs best (beat o (cheapest p (m ∷ []) cs) cs)
    unfolding cheapest cheaper
    better_stays {c} e q l = rw e (go best o k l)
      where
        go : (t : Option Best) (x : ChoiceM) → Kept cs t x → MatchOption t ⊥ (λ b. b.cost ≤ c) → Kept cs t (beat x (chosen m) cs)
        go None x y l = absurd l
        go (Some t) none y l = absurd y
        go (Some t) (chosen d) y l = unfold beat cheaper in rw (loses q y.1 l) y

module _ (cs : List Channel) where
  -- ---- the choice, by the tests of the code

  module _ (p : ℕ) (l : List ℕ) where
    pub choose_empty : length l ≡ 0 → Some 0 ≡ choice_of (choose p l cs)
    choose_empty h = go l h
      where
        go : (k : List ℕ) → length k ≡ 0 → Some 0 ≡ choice_of (choose p k cs)
        go [] h = unfold choose in refl
        go (m ∷ ms) h = absurd (omega arith)

    some : (length l ≡ 0 → ⊥) → choose p l cs ≡ or_else (first_free p l cs) (cheapest p l cs)
    some h = go l h
      where
        go : (k : List ℕ) → (length k ≡ 0 → ⊥) → choose p k cs ≡ or_else (first_free p k cs) (cheapest p k cs)
        go [] h = absurd (h refl)
        go (m ∷ ms) h = unfold choose in refl

    module _ {f : Option ℕ} (h : length l ≡ 0 → ⊥) (e : (q : ℕ) → f ≡ choice_of (first_free q l cs)) where
      pub choose_first : {m : ℕ} → f ≡ Some m → f ≡ choice_of (choose p l cs)
      unfolding or_else
      choose_first t = rw (some h, read (first_free p l cs) (e p) t) t

      pub choose-second : {r : Option ℕ} → f ≡ None → r ≡ choice_of (cheapest p l cs) → r ≡ choice_of (choose p l cs)
      unfolding or_else
      choose-second t g = rw (some h, read (first_free p l cs) (e p) t) g
