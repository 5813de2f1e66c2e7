-- Who waits before a call and after it is the same request: settling and the commands only take requests away, and the one that joins
-- had an idle id. So the number of requests that name a channel moves by those that join and those that go.
-- Assumes nothing.
--
--   being x us, gone us r   the requests of us with id x; r is not among those of us, by its id
--   Agree ws vs             an id in both lists is the same request
use Prim.Native.Nat.{ℕ, ◌+◌}
use mathlib.Core.Path.{◌≡◌, refl, ap, subst, sym, ◌∙◌}
use mathlib.Core.Logic.{inl, inr}
use mathlib.Core.Bool.{Bool, true, false, not, ◌&&◌, ◌||◌}
use mathlib.Core.List.{List, [], ◌∷◌}
use native.Mathlib.Omega.{arith}
use lib.Dec.{T, T_not, not_T, eqb, ltb, eqb→eq, eqb_refl}
use lib.ListN.{length}
use Rattle.std.specs.Prelude.{if◌then◌else◌}
use Rattle.widening.specs.machine.Lists.{any, keep, among, distinct}
use Rattle.widening.specs.machine.State.{Request, State, Call}
use Rattle.widening.specs.machine.Allocating.{enqueue}
use Rattle.widening.specs.machine.Refusals.{Refusal, accepted, refused, refusal}
use Rattle.widening.specs.machine.Call.{accept, answering, call}
use Rattle.widening.proofs.machine.Tests.{if_elim, by_test, test_true, test_false, and_left, and_right, nor_left, nor_right, or_left, or_right, eqb_flip, eqb_false}
use Rattle.widening.specs.machine_laws.Lists.{Sub, end, skip, take}
use Rattle.widening.proofs.machine_laws.Lists.{sub_map, sub_among}
use Rattle.widening.specs.machine_laws.Keeping.{wait_ids}
use Rattle.widening.specs.machine_laws.Sound.{Parts}
use Rattle.widening.proofs.machine_laws.Sound.{parts}
use Rattle.widening.proofs.machine_laws.Refusals.{refuse_same}
use Rattle.display.specs.Looks.{acting}
use Rattle.display.specs.Display.{names, naming}
use Rattle.display.specs.Standing.{being, gone, Agree}
use Rattle.display.proofs.Acting.{asking, Turn, accepted-sound, acting_turn, turn_apart, waiting-apart, idle-waiting, accept_sub}

-- ---- being

sub_in : (x : ℕ) {us vs : List ℕ} → Sub us vs → T (among x us) → T (among x vs)
sub_in x {us} {vs} h t =
    by_test (among x vs) (λ u. u) (λ n. absurd (T_not (among x us) (sub_among x h n) t))

-- nobody has an id that is not there
being_none : (x : ℕ) (us : List Request) → T (not (among x (wait_ids us))) → being x us ≡ []
unfolding keep among any
being_none x [] n = refl
being_none x (r ∷ us) n =
    rw (test_false (eqb x r.id) (nor_left (eqb x r.id) (among x (wait_ids us)) n))
    (being_none x us (nor_right (eqb x r.id) (among x (wait_ids us)) n))

-- the head of distinct ids is alone with its own
head_other : (x : ℕ) (r : Request) (us : List Request) → T (distinct (wait_ids (r ∷ us))) → T (among x (wait_ids us)) → eqb x r.id ≡ false
unfolding distinct
head_other x r us d t =
    eqb_false x r.id
    (λ e. T_not (among r.id (wait_ids us)) (and_left (not (among r.id (wait_ids us))) (distinct (wait_ids us)) d)
    (subst (λ (i : ℕ). T (among i (wait_ids us))) e t))

tail_apart : (r : Request) (us : List Request) → T (distinct (wait_ids (r ∷ us))) → T (distinct (wait_ids us))
unfolding distinct
tail_apart r us d = and_right (not (among r.id (wait_ids us))) (distinct (wait_ids us)) d

head_alone : (x : ℕ) (r : Request) (us : List Request) → T (distinct (wait_ids (r ∷ us))) → T (eqb x r.id) → T (not (among x (wait_ids us)))
unfolding distinct
head_alone x r us d e =
    subst (λ (i : ℕ). T (not (among i (wait_ids us)))) (sym (eqb→eq x r.id e))
    (and_left (not (among r.id (wait_ids us))) (distinct (wait_ids us)) d)

-- what is left of a list has the same request by an id
sub_being : (x : ℕ) {vs ws : List Request} → Sub vs ws → T (distinct (wait_ids ws)) → T (among x (wait_ids vs)) → being x vs ≡ being x ws
unfolding keep among any
sub_being x end d t = absurd t
sub_being x (skip {x = r} {xs = vs} {ys = ws} h) d t =
    rw (head_other x r ws d (sub_in x (sub_map (λ (q : Request). q.id) h) t)) (sub_being x h (tail_apart r ws d) t)
sub_being x (take {x = r} {xs = vs} {ys = ws} h) d t =
    by_test (eqb x r.id)
    (λ e. let n = head_alone x r ws d e in
    rw (test_true (eqb x r.id) e, being_none x ws n, being_none x vs (sub_among x (sub_map (λ (q : Request). q.id) h) n)) refl)
    (λ e. rw (test_false (eqb x r.id) e) (sub_being x h (tail_apart r ws d) (rw (test_false (eqb x r.id) e) at t)))

-- one who joins has another id
enqueue-being : (x : ℕ) (r : Request) (ws : List Request) → eqb x r.id ≡ false → being x (enqueue r ws) ≡ being x ws
unfolding enqueue keep
enqueue-being x r [] n = rw n refl
enqueue-being x r (w ∷ ws) n =
    if_elim (λ (us : List Request). being x us ≡ being x (w ∷ ws)) (ltb w.prec r.prec) (λ _. rw n refl)
    (λ _. by_test (eqb x w.id)
    (λ t. rw (test_true (eqb x w.id) t) (ap (λ (us : List Request). w ∷ us) (enqueue-being x r ws n)))
    (λ t. rw (test_false (eqb x w.id) t) (enqueue-being x r ws n)))

-- ---- call

module _ (c : Call) (s : State) (p : Parts s) where
  turn_agree : (ws : List Request) → Turn c s ws → Agree s.waiting ws
  turn_agree ws (inl h) x t u = sub_being x h (waiting-apart s p) u
  turn_agree ws (inr h) x t u = rw h.2 (enqueue-being x (asking c) s.waiting other)
    where
      other : eqb x c.id ≡ false
      other =
          eqb_false x c.id
          (λ e. T_not (among c.id (wait_ids s.waiting)) (idle-waiting c s p h.1) (subst (λ (i : ℕ). T (among i (wait_ids s.waiting))) e t))

  left_agree : (ws vs : List Request) → Turn c s ws → Sub vs ws → Agree s.waiting vs
  left_agree ws vs t h x a b =
      sub_being x h (turn_apart c s p ws t) b
      ∙ turn_agree ws t x a (sub_in x (sub_map (λ (r : Request). r.id) h) b)

-- a request that waits before a call and after it is the same
pub call_agree : (s : State) (c : Call) → Agree s.waiting (call s c).next.waiting
unfolding call answering
call_agree s c = go (refusal c.op c s) refl
  where
    go : (f : Refusal) → refusal c.op c s ≡ f → Agree s.waiting (answering f c s).next.waiting
    go accepted e =
        left_agree c s (parts s (accepted-sound c.op c s e)) (acting c.op c s).next.waiting (accept c.op c s).next.waiting
        (acting_turn c.op c s e) (accept_sub c.op c s)
    go (refused n) e = λ x t u. ap (λ (v : State). being x v.waiting) (refuse_same c.op n c s)

-- ---- counting

keep_and : (p a : Request → Bool) (us : List Request) → keep (λ r. p r && a r) us ≡ keep p (keep a us)
unfolding keep
keep_and p a [] = refl
keep_and p a (r ∷ us) = go (p r) (a r) refl refl (keep_and p a us)
  where
    go : (x y : Bool) → p r ≡ x → a r ≡ y → keep (λ q. p q && a q) us ≡ keep p (keep a us)
        → (if x && y then r ∷ keep (λ q. p q && a q) us else keep (λ q. p q && a q) us) ≡ keep p (if y then r ∷ keep a us else keep a us)
    go true true e f ih = rw e (ap (λ (qs : List Request). r ∷ qs) ih)
    go true false e f ih = ih
    go false true e f ih = rw e ih
    go false false e f ih = ih

-- by two tests that exclude each other
keep_or : (p a b : Request → Bool) → ((r : Request) → T (a r) → b r ≡ false) → (us : List Request)
    → length (keep (λ r. p r && (a r || b r)) us) ≡ length (keep (λ r. p r && a r) us) + length (keep (λ r. p r && b r) us)
unfolding keep
keep_or p a b h [] = refl
keep_or p a b h (r ∷ us) = go (p r) (a r) (b r) (h r) (keep_or p a b h us)
  where
    ors : List Request
    ors = keep (λ q. p q && (a q || b q)) us

    ands : List Request
    ands = keep (λ q. p q && a q) us

    bnds : List Request
    bnds = keep (λ q. p q && b q) us

    go : (x y z : Bool) → (T y → z ≡ false) → length ors ≡ length ands + length bnds
        → length (if x && (y || z) then r ∷ ors else ors) ≡ length (if x && y then r ∷ ands else ands) + length (if x && z then r ∷ bnds else bnds)
    go true true z e ih = rw (e tt) (omega arith)
    go true false true e ih = omega arith
    go true false false e ih = ih
    go false y z e ih = ih

keep_split : (p a : Request → Bool) (us : List Request)
    → length (keep p us) ≡ length (keep (λ r. p r && a r) us) + length (keep (λ r. p r && not (a r)) us)
unfolding keep
keep_split p a [] = refl
keep_split p a (r ∷ us) = go (p r) (a r) (keep_split p a us)
  where
    all : List Request
    all = keep p us

    ands : List Request
    ands = keep (λ q. p q && a q) us

    nots : List Request
    nots = keep (λ q. p q && not (a q)) us

    go : (x y : Bool) → length all ≡ length ands + length nots
        → length (if x then r ∷ all else all) ≡ length (if x && y then r ∷ ands else ands) + length (if x && not y then r ∷ nots else nots)
    go true true ih = omega arith
    go true false ih = omega arith
    go false y ih = ih

eqb_swap : (m n : ℕ) → eqb m n ≡ eqb n m
eqb_swap m n =
    by_test (eqb m n)
    (λ t. test_true (eqb m n) t ∙ sym (test_true (eqb n m) (eqb_flip m n t)))
    (λ t. test_false (eqb m n) t ∙ sym (test_false (eqb n m) (not_T (eqb n m) (λ u. T_not (eqb m n) t (eqb_flip n m u)))))

keep_never : (q : Request → Bool) → ((r : Request) → q r ≡ false) → (us : List Request) → keep q us ≡ []
unfolding keep
keep_never q h [] = refl
keep_never q h (r ∷ us) = rw (h r) (keep_never q h us)

and_false : (x : Bool) → (x && false) ≡ false
and_false true = refl
and_false false = refl

abbrev there : List Request → Request → Bool
there us r = among r.id (wait_ids us)

module _ (p : Request → Bool) (vs : List Request) where
  module _ (r : Request) (ws : List Request) (d : T (distinct (wait_ids (r ∷ ws)))) where
    -- the head is no request of the rest
    apart : (q : Request) → T (eqb q.id r.id) → there ws q ≡ false
    apart q e =
        test_false (there ws q)
        (subst (λ (i : ℕ). T (not (among i (wait_ids ws)))) (sym (eqb→eq q.id r.id e)) (head_alone r.id r ws d (eqb_refl r.id)))

    -- those of the other list that the head or the rest has
    head_many : length (keep (λ q. p q && there (r ∷ ws) q) vs) ≡ length (keep p (being r.id vs)) + length (keep (λ q. p q && there ws q) vs)
    unfolding among any
    head_many =
        keep_or p (λ q. eqb q.id r.id) (there ws) apart vs
        ∙ ap (λ (us : List Request). length us + length (keep (λ q. p q && there ws q) vs))
        (keep_and p (λ q. eqb q.id r.id) vs ∙ ap (λ (t : Request → Bool). keep p (keep t vs)) (λ i q. eqb_swap q.id r.id i))

  -- the requests of both lists are as many in each
  both_many : (ws : List Request) → T (distinct (wait_ids ws)) → Agree ws vs
      → length (keep (λ r. p r && there ws r) vs) ≡ length (keep (λ r. p r && there vs r) ws)
  unfolding keep among any
  both_many [] d h = ap length (keep_never (λ r. p r && false) (λ r. and_false (p r)) vs)
  both_many (r ∷ ws) d h =
      let ih = both_many ws (tail_apart r ws d)
      (λ x a b. h x (or_right (eqb x r.id) (among x (wait_ids ws)) a) b ∙ (rw (head_other x r ws d a) refl)) in
      by_test (there vs r)
      (λ t. rw (test_true (there vs r) t) (head_many r ws d ∙ one r (keep (λ q. p q && there vs q) ws) (self r ws d h t) ih))
      (λ t. rw (test_false (there vs r) t, and_false (p r))
      (head_many r ws d ∙ ap (λ (us : List Request). length (keep p us) + length (keep (λ q. p q && there ws q) vs)) (being_none r.id vs t) ∙ (omega (arith, ih))))
    where
      -- the other list has the head too
      self : (r : Request) (ws : List Request) → T (distinct (wait_ids (r ∷ ws))) → Agree (r ∷ ws) vs → T (there vs r) → being r.id vs ≡ r ∷ []
      self r ws d h t =
          h r.id (or_left (eqb r.id r.id) (among r.id (wait_ids ws)) (eqb_refl r.id)) t
          ∙ (rw (test_true (eqb r.id r.id) (eqb_refl r.id), being_none r.id ws (head_alone r.id r ws d (eqb_refl r.id))) refl)

      one : (r : Request) (us : List Request) {n : ℕ} → being r.id vs ≡ r ∷ [] → n ≡ length us
          → length (keep p (being r.id vs)) + n ≡ length (if p r && true then r ∷ us else us)
      one r us e i = rw (e, i) (two (p r))
        where
          two : (x : Bool) → length (if x then r ∷ [] else []) + length us ≡ length (if x && true then r ∷ us else us)
          two true = omega arith
          two false = omega arith

  -- what the other list has beyond this one, and this beyond the other
  pub moves : (ws : List Request) → T (distinct (wait_ids ws)) → Agree ws vs
      → length (keep p vs) + length (keep (λ r. p r && gone vs r) ws) ≡ length (keep p ws) + length (keep (λ r. p r && gone ws r) vs)
  moves ws d h = omega (arith, both_many ws d h, keep_split p (there ws) vs, keep_split p (there vs) ws)

-- ---- naming

pub naming-moves : (i : ℕ) (s : State) (c : Call)
    → naming i (call s c).next + length (keep (λ r. names i r && gone (call s c).next.waiting r) s.waiting)
    ≡ naming i s + length (keep (λ r. names i r && gone s.waiting r) (call s c).next.waiting)
unfolding naming call answering
naming-moves i s c = go (refusal c.op c s) refl (call_agree s c)
  where
    moved : State → Type 0
    moved t =
        length (keep (names i) t.waiting) + length (keep (λ r. names i r && gone t.waiting r) s.waiting)
        ≡ length (keep (names i) s.waiting) + length (keep (λ r. names i r && gone s.waiting r) t.waiting)

    go : (f : Refusal) → refusal c.op c s ≡ f → Agree s.waiting (answering f c s).next.waiting → moved (answering f c s).next
    go accepted e h =
        moves (names i) (accept c.op c s).next.waiting s.waiting (waiting-apart s (parts s (accepted-sound c.op c s e))) h
    go (refused n) e h = subst moved (sym (refuse_same c.op n c s)) refl
