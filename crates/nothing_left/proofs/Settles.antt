-- A call that settles was accepted and is no OPEN that failed; one that does not leaves the state as it was.
-- Assumes nothing.
use Prim.Native.Nat.{ℕ}
use mathlib.Core.Path.{◌≡◌, refl, ap, subst, sym, ◌∙◌}
use mathlib.Core.Bool.{not, ◌&&◌}
use mathlib.Core.List.{[], ◌∷◌}
use lib.Dec.{T, T_not, eqb, eqb→eq}
use Rattle.machine.specs.Numbers.{neg, ALLOCFAILED}
use Rattle.machine.specs.Lists.{all, among, any}
use Rattle.machine.specs.State.{State, Answer, Outcome, Call, Op, OPEN, CLOSE, ABORT, EVENT, COMMAND}
use Rattle.machine.specs.Refusals.{Refusal, accepted, refused, refusal}
use Rattle.machine.specs.Commands.{done, do_close, do_abort, do_event}
use Rattle.machine.specs.Allocating.{do_open}
use Rattle.machine.specs.Kinds.{kind}
use Rattle.machine.specs.Call.{perform, settling, open_settling, accept, answering, call}
use Rattle.machine.proofs.Tests.{if_elim, and_left, and_right, and_both, by_test}
use Rattle.machine.proofs.Steps.{first_among}
use Rattle.display.proofs.machine_laws.Lists.{among_all}
use Rattle.display.proofs.machine_laws.Refusals.{refuse-answer, refused_same, open_failed_same}
use Rattle.display.specs.machine_laws.Settling.{AtRest}
use Rattle.display.proofs.machine_laws.Settling.{settle_rests}
use Rattle.display.specs.Looks.{looks, acting, looked}
use Rattle.display.proofs.Looks.{looked-settles}
use Rattle.nothing_left.specs.Settles.{unsettled, opens, settles}

-- ---- the numbers of the refusals

-- a refusal's number is one of those after which nothing settles
refusal-number : (o : Op) (c : Call) (s : State) (e : ℕ) → refusal o c s ≡ refused e → T (among e unsettled)
unfolding refusal
refusal-number OPEN c s e q = among_all (λ x. among x unsettled) e (1 ∷ 5 ∷ neg 4 ∷ neg 5 ∷ neg 1 ∷ []) (unfold all among any in tt) (first_among _ e q)
refusal-number CLOSE c s e q = among_all (λ x. among x unsettled) e (1 ∷ 5 ∷ 2 ∷ []) (unfold all among any in tt) (first_among _ e q)
refusal-number ABORT c s e q = among_all (λ x. among x unsettled) e (1 ∷ 5 ∷ 4 ∷ 8 ∷ []) (unfold all among any in tt) (first_among _ e q)
refusal-number (EVENT v) c s e q = among_all (λ x. among x unsettled) e (1 ∷ 5 ∷ neg 5 ∷ []) (unfold all among any in tt) (first_among _ e q)
refusal-number (COMMAND n) c s e q = among_all (λ x. among x unsettled) e (1 ∷ 5 ∷ 4 ∷ 8 ∷ 3 ∷ 2 ∷ neg 3 ∷ neg 4 ∷ neg 5 ∷ neg 4 ∷ []) (unfold all among any in tt) (first_among _ e q)

refused-error : (s : State) (c : Call) (e : ℕ) → refusal c.op c s ≡ refused e → (call s c).answer.error ≡ e
unfolding call answering done
refused-error s c e q = ap (λ (r : Refusal). (answering r c s).answer.error) q ∙ ap (λ (a : Answer). a.error) (refuse-answer c.op e c s)

-- ---- what settles is at rest

settled_rests : (o : Outcome) → AtRest (settling o).next
unfolding settling
settled_rests o = settle_rests o.next

opened_rests : (o : Outcome) → ((open_settling o).answer.error ≡ ALLOCFAILED → ⊥) → AtRest (open_settling o).next
unfolding open_settling
opened_rests o =
    if_elim (λ (u : Outcome). (u.answer.error ≡ ALLOCFAILED → ⊥) → AtRest u.next) (eqb o.answer.error ALLOCFAILED)
    (λ t n. absurd (n (eqb→eq o.answer.error ALLOCFAILED t))) (λ _ _. settled_rests o)

accept_rests : (o : Op) (c : Call) (s : State) → (o ≡ OPEN → (accept o c s).answer.error ≡ ALLOCFAILED → ⊥) → AtRest (accept o c s).next
unfolding accept
accept_rests OPEN c s n = opened_rests (do_open c s) (n refl)
accept_rests CLOSE c s n = settled_rests (do_close c s)
accept_rests ABORT c s n = settled_rests (do_abort c s)
accept_rests (EVENT v) c s n = settled_rests (do_event v c s)
accept_rests (COMMAND k) c s n = settled_rests (perform (kind k) c s)

-- ---- settles

is_open : (o : Op) → T (opens o) → o ≡ OPEN
unfolding opens
is_open OPEN t = refl
is_open CLOSE t = absurd t
is_open ABORT t = absurd t
is_open (EVENT v) t = absurd t
is_open (COMMAND n) t = absurd t

open_is : (o : Op) → o ≡ OPEN → T (opens o)
unfolding opens
open_is o e = rw e tt

module _ (s : State) (c : Call) (t : T (settles s c)) where
  -- a call that settles was accepted
  pub settles-accepted : refusal c.op c s ≡ accepted
  unfolding settles
  settles-accepted = go (refusal c.op c s) refl
    where
      go : (r : Refusal) → refusal c.op c s ≡ r → refusal c.op c s ≡ accepted
      go accepted q = q
      go (refused e) q =
          absurd
          (T_not (among (call s c).answer.error unsettled)
          (and_left (not (among (call s c).answer.error unsettled)) (not (opens c.op && eqb (call s c).answer.error ALLOCFAILED)) t)
          (subst (λ (x : ℕ). T (among x unsettled)) (sym (refused-error s c e q)) (refusal-number c.op c s e q)))

  -- and is no OPEN that failed
  pub settles_no_failed_open : c.op ≡ OPEN → (call s c).answer.error ≡ ALLOCFAILED → ⊥
  unfolding settles
  settles_no_failed_open o e =
      T_not (opens c.op && eqb (call s c).answer.error ALLOCFAILED)
      (and_right (not (among (call s c).answer.error unsettled)) (not (opens c.op && eqb (call s c).answer.error ALLOCFAILED)) t)
      (and_both (opens c.op) (eqb (call s c).answer.error ALLOCFAILED) (open_is c.op o) (subst (λ (x : ℕ). T (eqb x ALLOCFAILED)) (sym e) tt))

  -- its looks do not depend on those before
  pub settles-looks : (k : ℕ) → looked s c k ≡ looks (acting c.op c s).next
  settles-looks k = looked-settles s c k settles-accepted settles_no_failed_open

  -- after it the state is at rest, whatever it was before
  pub settles_rests : AtRest (call s c).next
  unfolding call answering
  settles_rests =
      subst (λ (r : Refusal). (c.op ≡ OPEN → (answering r c s).answer.error ≡ ALLOCFAILED → ⊥) → AtRest (answering r c s).next)
      (sym settles-accepted) (accept_rests c.op c s) settles_no_failed_open

-- ---- a call that does not

module _ (s : State) (c : Call) (t : T (not (settles s c))) where
  -- it is refused, or an OPEN that failed
  unsettled_cases : {A : Type 0} → (T (among (call s c).answer.error unsettled) → A) → (c.op ≡ OPEN → (call s c).answer.error ≡ ALLOCFAILED → A) → A
  unfolding settles
  unsettled_cases f g =
      let e = (call s c).answer.error in
      by_test (among e unsettled) f
      (λ n. by_test (opens c.op && eqb e ALLOCFAILED)
      (λ u. g (is_open c.op (and_left (opens c.op) (eqb e ALLOCFAILED) u)) (eqb→eq e ALLOCFAILED (and_right (opens c.op) (eqb e ALLOCFAILED) u)))
      (λ u. absurd (T_not (not (among e unsettled) && not (opens c.op && eqb e ALLOCFAILED)) t (and_both (not (among e unsettled)) (not (opens c.op && eqb e ALLOCFAILED)) n u))))

  pub unsettled-stays : (call s c).next ≡ s
  unsettled-stays = unsettled_cases (refused_same s c) (λ o e. (open_failed_same s c o e).0)
