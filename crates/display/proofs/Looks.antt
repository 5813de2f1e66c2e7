-- Why the looks are at most w(w+1)/2: a walk reaches at most all who wait, and one that grants leaves fewer. So 2,080 at most; and the
-- definition has walks enough: more change nothing.
-- Assumes nothing.
--
--   triangle w              1 + 2 + .. + w
--   ending l, stops cs r    the look is a grant; the request is granted
use Prim.Native.Nat.{ℕ, zero, suc, ◌+◌, ◌*◌, ◌≤◌, ◌<◌}
use mathlib.Core.Path.{◌≡◌, refl, ap, subst, sym, ◌∙◌}
use mathlib.Core.Bool.{not}
use mathlib.Core.List.{List, [], ◌∷◌, ◌++◌}
use native.Mathlib.Omega.{arith}
use lib.Dec.{T, eqb}
use lib.ListN.{length}
use Rattle.widening.specs.machine.Numbers.{ALLOCFAILED}
use Rattle.widening.specs.machine.Lists.{all, keep}
use Rattle.widening.specs.machine.State.{Channel, Lock, Request, State, Answer, Outcome, Call, Op, OPEN, CLOSE, ABORT, EVENT, COMMAND}
use Rattle.widening.specs.machine.Maps.{meets}
use Rattle.widening.specs.machine.Choosing.{Look, fails, held, grants, look}
use Rattle.widening.specs.machine.Granting.{granted}
use Rattle.widening.specs.machine.Settling.{Found, nobody, somebody, Walk, saying, staying, on_look, walk, walked}
use Rattle.widening.specs.machine.Allocating.{do_open}
use Rattle.widening.specs.machine.Call.{settling, open_settling, accept, answering, call}
use Rattle.widening.specs.machine.Refusals.{Refusal, accepted, refused, refusal}
use Rattle.widening.proofs.machine.Tests.{if_elim, and_left, and_right, eqb_false}
use Rattle.widening.proofs.machine_laws.Sound.{parts}
use Rattle.widening.proofs.machine_laws.Settling.{Fewer, walk_shorter}
use Rattle.display.specs.Looks.{beyond, reached, look_on, looks_in, looks, acting, looks_after, looked_by, looked, triangle, ending, stops}
use Rattle.display.proofs.Acting.{accepted-sound, acting_turn, turn_few}

-- ---- the bound

pub triangle_twice : (w : ℕ) → 2 * triangle w ≡ w * suc w
unfolding triangle
triangle_twice zero = refl
triangle_twice (suc w) = let ih = triangle_twice w in omega arith

pub triangle_mono : (v w : ℕ) → v ≤ w → triangle v ≤ triangle w
unfolding triangle
triangle_mono zero w h = omega arith
triangle_mono (suc v) zero h = absurd (omega arith)
triangle_mono (suc v) (suc w) h = let ih = triangle_mono v w (omega arith) in omega arith

-- ---- a walk

beyond_most : (l : Look) (n : ℕ) → beyond l n ≤ n
unfolding beyond
beyond_most fails n = omega arith
beyond_most (held m) n = omega arith
beyond_most (grants m) n = omega arith

pub reached_most : (cs : List Channel) (rs : List Request) → reached cs rs ≤ length rs
unfolding reached
reached_most cs [] = omega arith
reached_most cs (r ∷ rs) =
    omega (arith, reached_most cs rs, beyond_most (look r.prec r.combos cs) (reached cs rs))

ending_ends : (l : Look) → T (ending l) → (n : ℕ) → beyond l n ≡ 0
unfolding ending beyond
ending_ends fails t n = absurd t
ending_ends (held m) t n = absurd t
ending_ends (grants m) t n = refl

ending-goes : (l : Look) → T (not (ending l)) → (n : ℕ) → beyond l n ≡ n
unfolding ending beyond
ending-goes fails t n = refl
ending-goes (held m) t n = refl
ending-goes (grants m) t n = absurd t

-- ---- looks_in: at most 1 + 2 + .. + w

look_on_most : (n : ℕ) (f : Found) (w : Walk) (s : State) (again : State → ℕ) → Fewer n f (length w.waiting)
    → ((u : State) → again u ≤ triangle (length u.waiting)) → n + look_on f w s again ≤ triangle n
unfolding look_on granted walked triangle
look_on_most zero nobody w s again h ih = omega arith
look_on_most zero (somebody r m) w s again h ih = absurd (omega arith)
look_on_most (suc n) nobody w s again h ih = omega arith
look_on_most (suc n) (somebody r m) w s again h ih =
    omega (arith, ih (granted m r.key r.prec (walked w s)), triangle_mono (length w.waiting) n (omega arith))

pub looks_in_most : (n : ℕ) (s : State) → looks_in n s ≤ triangle (length s.waiting)
unfolding looks_in
looks_in_most zero s = omega arith
looks_in_most (suc n) s =
    let w = walk s.channels s.waiting s.locks in
    omega (
      arith,
      reached_most s.channels s.waiting,
      look_on_most (length s.waiting) w.found w s (looks_in n) (walk_shorter s.channels s.waiting s.locks) (looks_in_most n),
    )

-- "never exceeds w(w+1)/2 for w waiting when settling starts"
pub looks_most : (s : State) → looks s ≤ triangle (length s.waiting)
unfolding looks
looks_most s = looks_in_most (suc (length s.waiting)) s

-- "so 2,080 at most"
pub looks_few : (s : State) → length s.waiting ≤ 64 → looks s ≤ 2080
looks_few s h = omega (arith, looks_most s, triangle_mono (length s.waiting) 64 h, e)
  where
    e : triangle 64 ≡ 2080
    e = unfold triangle in refl

-- ---- looks_in: more walks change nothing

pub look_on_enough : (f : Found) (w : Walk) (s : State) (a b : State → ℕ) → Fewer (length s.waiting) f (length w.waiting)
    → ((u : State) → length u.waiting < length s.waiting → a u ≡ b u) → look_on f w s a ≡ look_on f w s b
unfolding look_on walked granted
look_on_enough nobody w s a b h ih = refl
look_on_enough (somebody r m) w s a b h ih = ih (granted m r.key r.prec (walked w s)) h

looks_in_enough : (n k : ℕ) (s : State) → length s.waiting < n → length s.waiting < k → looks_in n s ≡ looks_in k s
unfolding looks_in
looks_in_enough zero k s h g = absurd (omega arith)
looks_in_enough (suc n) zero s h g = absurd (omega arith)
looks_in_enough (suc n) (suc k) s h g =
    let w = walk s.channels s.waiting s.locks in
    ap (λ (x : ℕ). reached s.channels s.waiting + x)
    (look_on_enough w.found w s (looks_in n) (looks_in k) (walk_shorter s.channels s.waiting s.locks)
    (λ u l. looks_in_enough n k u (omega arith) (omega arith)))

pub looks_enough : (n : ℕ) (s : State) → length s.waiting < n → looks_in n s ≡ looks s
unfolding looks
looks_enough n s h = looks_in_enough n (suc (length s.waiting)) s h (omega arith)

-- ---- after a call: at most 64 wait when settling starts

module _ (m k : ℕ) (most : 2080 ≤ m) (h : k ≤ m) where
  after_most : (o : Op) (c : Call) (s : State) → refusal o c s ≡ accepted → looks_after o (acting o c s) k ≤ m
  after_most o c s e = go o (acting o c s) (looks_few (acting o c s).next few)
    where
      few : length (acting o c s).next.waiting ≤ 64
      few = turn_few c s (parts s (accepted-sound o c s e)) (acting o c s).next.waiting (acting_turn o c s e)

      go : (p : Op) (u : Outcome) → looks u.next ≤ 2080 → looks_after p u k ≤ m
      go OPEN u l = unfold looks_after in if_elim (λ (n : ℕ). n ≤ m) (eqb u.answer.error ALLOCFAILED) (λ _. h) (λ _. omega arith)
      go CLOSE u l = unfold looks_after in omega arith
      go ABORT u l = unfold looks_after in omega arith
      go (EVENT v) u l = unfold looks_after in omega arith
      go (COMMAND n) u l = unfold looks_after in omega arith

  pub looked_most : (s : State) (c : Call) → looked s c k ≤ m
  unfolding looked looked_by
  looked_most s c = go (refusal c.op c s) refl
    where
      go : (f : Refusal) → refusal c.op c s ≡ f → looked_by f c s k ≤ m
      go accepted e = after_most c.op c s e
      go (refused x) e = h

-- whatever the call, and sound or not
pub looked_few : (s : State) (c : Call) (k : ℕ) → k ≤ 2080 → looked s c k ≤ 2080
looked_few s c k h = looked_most 2080 k (omega arith) h s c

-- ---- which calls set it

pub looked-refused : (s : State) (c : Call) (k e : ℕ) → refusal c.op c s ≡ refused e → looked s c k ≡ k
unfolding looked looked_by
looked-refused s c k e f = rw f refl

-- "Whether a command is done or outstanding is settled before the walk": settling leaves the answer
accept-answer : (o : Op) (c : Call) (s : State) → (accept o c s).answer ≡ (acting o c s).answer
unfolding accept acting open_settling settling
accept-answer OPEN c s = if_elim (λ (u : Outcome). u.answer ≡ (do_open c s).answer) (eqb (do_open c s).answer.error ALLOCFAILED) (λ _. refl) (λ _. refl)
accept-answer CLOSE c s = refl
accept-answer ABORT c s = refl
accept-answer (EVENT v) c s = refl
accept-answer (COMMAND n) c s = refl

module _ (k : ℕ) (u : Outcome) where
  after_failed : (o : Op) → o ≡ OPEN → u.answer.error ≡ ALLOCFAILED → looks_after o u k ≡ k
  unfolding looks_after
  after_failed OPEN f e = rw e refl
  after_failed CLOSE f e = absurd (let z : ◌≡◌ {A = ℕ} 0 1 = cc in omega arith)
  after_failed ABORT f e = absurd (let z : ◌≡◌ {A = ℕ} 0 1 = cc in omega arith)
  after_failed (EVENT v) f e = absurd (let z : ◌≡◌ {A = ℕ} 0 1 = cc in omega arith)
  after_failed (COMMAND n) f e = absurd (let z : ◌≡◌ {A = ℕ} 0 1 = cc in omega arith)

  after-settles : (o : Op) → (o ≡ OPEN → u.answer.error ≡ ALLOCFAILED → ⊥) → looks_after o u k ≡ looks u.next
  unfolding looks_after
  after-settles OPEN f = rw (eqb_false u.answer.error ALLOCFAILED (f refl)) refl
  after-settles CLOSE f = refl
  after-settles ABORT f = refl
  after-settles (EVENT v) f = refl
  after-settles (COMMAND n) f = refl

-- an OPEN answered -11 settles nothing
pub looked_failed : (s : State) (c : Call) (k : ℕ) → c.op ≡ OPEN → (call s c).answer.error ≡ ALLOCFAILED → looked s c k ≡ k
unfolding looked looked_by call answering
looked_failed s c k o = go (refusal c.op c s)
  where
    go : (f : Refusal) → (answering f c s).answer.error ≡ ALLOCFAILED → looked_by f c s k ≡ k
    go accepted e = after_failed k (acting c.op c s) c.op o (ap (λ (a : Answer). a.error) (sym (accept-answer c.op c s)) ∙ e)
    go (refused x) e = refl

-- every other accepted call settles: the number before is forgotten
pub looked-settles : (s : State) (c : Call) (k : ℕ) → refusal c.op c s ≡ accepted → (c.op ≡ OPEN → (call s c).answer.error ≡ ALLOCFAILED → ⊥)
    → looked s c k ≡ looks (acting c.op c s).next
unfolding looked looked_by call answering
looked-settles s c k a = rw a (λ o. after-settles k (acting c.op c s) c.op (λ f e. o f (ap (λ (x : Answer). x.error) (accept-answer c.op c s) ∙ e)))

pub looks-nobody : (s : State) → s.waiting ≡ [] → looks s ≡ 0
unfolding looks looks_in reached walk look_on
looks-nobody s e = rw e refl

-- settling with nobody waiting sets 0
pub looked-nobody : (s : State) (c : Call) (k : ℕ) → refusal c.op c s ≡ accepted → (c.op ≡ OPEN → (call s c).answer.error ≡ ALLOCFAILED → ⊥)
    → (acting c.op c s).next.waiting ≡ [] → looked s c k ≡ 0
looked-nobody s c k a o e = looked-settles s c k a o ∙ looks-nobody (acting c.op c s).next e

-- ---- reached: as far as the first that is granted, or all

pub reached_first : (cs : List Channel) (qs : List Request) (r : Request) (rs : List Request) → T (all (λ q. not (stops cs q)) qs) → T (stops cs r)
    → reached cs (qs ++ r ∷ rs) ≡ suc (length qs)
unfolding reached all
reached_first cs [] r rs a t = ap suc (ending_ends (look r.prec r.combos cs) t (reached cs rs))
reached_first cs (q ∷ qs) r rs a t =
    ap suc
    (ending-goes (look q.prec q.combos cs) (and_left (not (stops cs q)) (all (λ x. not (stops cs x)) qs) a) (reached cs (qs ++ r ∷ rs))
    ∙ reached_first cs qs r rs (and_right (not (stops cs q)) (all (λ x. not (stops cs x)) qs) a) t)

pub reached_all : (cs : List Channel) (rs : List Request) → T (all (λ q. not (stops cs q)) rs) → reached cs rs ≡ length rs
unfolding reached all
reached_all cs [] a = refl
reached_all cs (r ∷ rs) a =
    ap suc
    (ending-goes (look r.prec r.combos cs) (and_left (not (stops cs r)) (all (λ x. not (stops cs x)) rs) a) (reached cs rs)
    ∙ reached_all cs rs (and_right (not (stops cs r)) (all (λ x. not (stops cs x)) rs) a))

-- ---- looks: walk by walk

abbrev None : List Channel → List Request → Walk → Type 0
None cs rs w = w.found ≡ nobody → T (all (λ q. not (stops cs q)) rs)

on_look_none : (n : ℕ) (cs : List Channel) (l : Look) (r : Request) (rs : List Request) (ls : List Lock) (rest : List Lock → Walk)
    → look r.prec r.combos cs ≡ l → ((k : List Lock) → None cs rs (rest k)) → None cs (r ∷ rs) (on_look n l r rs ls rest)
unfolding on_look saying staying all ending
on_look_none n cs fails r rs ls rest e ih = if_elim (None cs (r ∷ rs)) r.impatient (λ _ f. rw e (ih ls f)) (λ _ f. rw e (ih ls f))
on_look_none n cs (held m) r rs ls rest e ih = λ f. rw e (ih (keep (λ l. not (meets n m l.map)) ls) f)
on_look_none n cs (grants m) r rs ls rest e ih = λ f. absurd (let z : ◌≡◌ {A = ℕ} 0 1 = cc in omega arith)

walk_none : (cs : List Channel) (rs : List Request) (ls : List Lock) → None cs rs (walk cs rs ls)
unfolding walk all
walk_none cs [] ls = λ f. tt
walk_none cs (r ∷ rs) ls = on_look_none (length cs) cs (look r.prec r.combos cs) r rs ls (walk cs rs) refl (walk_none cs rs)

-- a walk that grants nobody looks at all who wait, and is the last
pub looks_last : (s : State) → (walk s.channels s.waiting s.locks).found ≡ nobody → looks s ≡ length s.waiting
unfolding looks looks_in look_on
looks_last s e =
    let w = walk s.channels s.waiting s.locks in
    ap (λ (f : Found). reached s.channels s.waiting + look_on f w s (looks_in (length s.waiting))) e
    ∙ (omega (arith, reached_all s.channels s.waiting (walk_none s.channels s.waiting s.locks e)))

abbrev next : State → Request → ℕ → State
next s r m = granted m r.key r.prec (walked (walk s.channels s.waiting s.locks) s)

looks-grant : (s : State) (r : Request) (m : ℕ) → (walk s.channels s.waiting s.locks).found ≡ somebody r m
    → looks s ≡ reached s.channels s.waiting + looks_in (length s.waiting) (next s r m)
unfolding looks looks_in look_on
looks-grant s r m e =
    let w = walk s.channels s.waiting s.locks in
    ap (λ (f : Found). reached s.channels s.waiting + look_on f w s (looks_in (length s.waiting))) e

less : (s : State) (r : Request) (m : ℕ) → (walk s.channels s.waiting s.locks).found ≡ somebody r m
    → length (next s r m).waiting < length s.waiting
unfolding granted walked
less s r m e =
    let w = walk s.channels s.waiting s.locks in
    subst (λ (f : Found). Fewer (length s.waiting) f (length w.waiting)) e (walk_shorter s.channels s.waiting s.locks)

-- one that grants looks at the requests as far as the one that it grants, and the next begins at the head
pub looks_on : (s : State) (r : Request) (m : ℕ) → (walk s.channels s.waiting s.locks).found ≡ somebody r m
    → looks s
    ≡ reached s.channels s.waiting + looks (granted m r.key r.prec (walked (walk s.channels s.waiting s.locks) s))
looks_on s r m e =
    looks-grant s r m e
    ∙ ap (λ (x : ℕ). reached s.channels s.waiting + x) (looks_enough (length s.waiting) (next s r m) (less s r m e))
