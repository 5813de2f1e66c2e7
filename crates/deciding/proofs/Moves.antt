-- Who leaves the waiting list before settling, and who joins it: by the operation, the entry of its id, and how many wait.
-- Assumes nothing.
use Prim.Native.Nat.{ℕ, zero, suc, ◌+◌, ◌≤◌, ◌<◌}
use mathlib.Core.Path.{◌≡◌, refl, ap, ap₂, sym, subst, ◌∙◌}
use mathlib.Core.Logic.{inl, inr}
use mathlib.Core.Bool.{Bool, true, false, not, ◌&&◌, ◌||◌}
use mathlib.Core.List.{List, [], ◌∷◌, ◌++◌, map}
use native.Mathlib.Omega.{arith}
use borrow.Author.Tests.{lt-ltb, le-ltb}
use lib.Dec.{T, T_not, eqb, ltb, eqb→eq}
use lib.ListN.{length, get_or, length-map}
use Rattle.answers.specs.machine.Numbers.{ADCMD_ALLOCATE}
use Rattle.std.specs.Prelude.{if◌then◌else◌}
use Rattle.answers.specs.machine.Lists.{any, keep, among, distinct}
use Rattle.answers.specs.machine.State.{Request as Waiting, State as StateM, Outcome as OutcomeM, Call, Op as OpM, OPEN, CLOSE, ABORT, EVENT, COMMAND}
use Rattle.answers.specs.machine.Allocating.{enqueue}
use Rattle.answers.specs.machine.Refusals.{Refusal, accepted, refusal}
use Rattle.answers.specs.machine.Settling.{settle}
use Rattle.answers.specs.machine.Call.{settling, answering}
use Rattle.answers.proofs.machine.Tests.{and_left, and_right, by_test, test_true, test_false, nor_left, nor_right, or_left, or_right}
use Rattle.display.specs.machine_laws.Lists.{Sub}
use Rattle.display.proofs.machine_laws.Lists.{sub_keep}
use Rattle.display.specs.machine_laws.Keeping.{wait_ids}
use Rattle.display.specs.Looks.{acting}
use Rattle.display.proofs.Acting.{asking, Stays, acting-stays, abort_keeps, waiting-apart, settle_sub}
use Rattle.table.specs.memory.Splice.{block}
use Rattle.table.specs.Entry.{list_in}
use Rattle.queue.specs.Queue.{list_of}
use Rattle.answers.specs.store.declared.State.{State}
use Rattle.answers.specs.store.Store.{struct_of, state_in, Held, Each, request_in}
use Rattle.answers.proofs.store.Store.{held_parts, waiting-count}
use Rattle.settling.proofs.waiting.Waiting.{id_at}
use Rattle.settling.proofs.waiting.Finding.{readable}
use Rattle.settling.specs.lanes.Lanes.{word_of, counted, weights, Balanced}
use Rattle.settling.proofs.lanes.Laws.{weights_in, weights_most, word_most, counted_sub, counted_in_lem, balanced_same}
use Rattle.answers.specs.declared.Request.{Request}
use Rattle.answers.specs.declared.Outcome.{Outcome}
use Rattle.answers.specs.Answers.{Told}
use Rattle.operations.specs.refusals.declared.Op.{Op}
use Rattle.operations.specs.refusals.declared.Op.TheVariants.{Open, Close, Abort, CycleEnded, GaveUp, Command}
use Rattle.operations.specs.refusals.Refusals.{op_in, asked_of}
use Rattle.operations.specs.Operations.{act, Allowed}
use Rattle.operations.proofs.Laws.{allowed_abort}
use Rattle.deciding.specs.Deciding.{waits_in, wait_word, gone_by, joined_by, joined_of, Moved}
use Rattle.deciding.proofs.Waits.{waits_is}

-- ---- an id struck out of the list

strike_none : (x : ℕ) (rs : List Waiting) → T (not (among x (wait_ids rs))) → keep (λ r. not (eqb x r.id)) rs ≡ rs
unfolding keep among any
strike_none x [] n = refl
strike_none x (r ∷ rs) n =
    rw (test_false (eqb x r.id) (nor_left (eqb x r.id) (among x (wait_ids rs)) n))
    (ap (λ (us : List Waiting). r ∷ us) (strike_none x rs (nor_right (eqb x r.id) (among x (wait_ids rs)) n)))

-- whoever has the id has this word
abbrev Worded : ℕ → ℕ → List Waiting → Type 0
Worded x w rs = Each (λ r. r.id ≡ x → word_of r.combos ≡ w) rs

strike_one : (x w : ℕ) (rs : List Waiting) → T (distinct (wait_ids rs)) → T (among x (wait_ids rs)) → Worded x w rs
    → weights (keep (λ r. not (eqb x r.id)) rs) + w ≡ weights rs
unfolding keep among any distinct weights
strike_one x w [] d t e = absurd t
strike_one x w (r ∷ rs) d t e =
    by_test (eqb x r.id)
    (λ q. let i = eqb→eq x r.id q in
    let n : T (not (among x (wait_ids rs))) = subst (λ (k : ℕ). T (not (among k (wait_ids rs)))) (sym i) (and_left (not (among r.id (wait_ids rs))) (distinct (wait_ids rs)) d) in
    let k = e.0 (sym i) in
    rw (test_true (eqb x r.id) q, strike_none x rs n) (omega (arith, k)))
    (λ q. let u : T (among x (wait_ids rs)) = rw (test_false (eqb x r.id) q) at t in
    let k = strike_one x w rs (and_right (not (among r.id (wait_ids rs))) (distinct (wait_ids rs)) d) u e.1 in
    rw (test_false (eqb x r.id) q) (omega (arith, k)))

worded : (tb : List ℕ) (x : ℕ) (is : List ℕ) → Worded x (word_of (list_in (block 23 tb x))) (map (request_in tb) is)
worded tb x [] = tt
worded tb x (i ∷ is) = (λ e. ap (λ (k : ℕ). word_of (list_in (block 23 tb k))) e, worded tb x is)

strike : {st : State} {tb : List ℕ} → Held st tb → (x : ℕ) → x < 64
    → weights (keep (λ r. not (eqb x r.id)) (state_in st tb).waiting) + wait_word tb x ≡ weights (state_in st tb).waiting
strike {st} {tb} h x l =
    let s = state_in st tb in
    let e = waits_is h x l in
    by_test (waits_in tb x)
    (λ q. rw (test_true (waits_in tb x) q) (strike_one x (word_of (list_in (block 23 tb x))) s.waiting (waiting-apart s (held_parts h)) (subst T e q) (worded tb x (list_of st.waiting))))
    (λ q. rw (test_false (waits_in tb x) q) (let k = ap weights (strike_none x s.waiting (subst (λ (b : Bool). T (not b)) e q)) in omega (arith, k)))

-- the entry of who waits has sixteen combinations at most

among_at : (x : ℕ) (xs : List ℕ) → T (among x xs) → (j : ℕ) × (j < length xs) × (get_or xs j 0 ≡ x)
unfolding among any
among_at x [] t = absurd t
among_at x (y ∷ ys) t =
    by_test (eqb x y) (λ q. (0, omega arith, sym (eqb→eq x y q)))
    (λ q. let r = among_at x ys (rw (test_false (eqb x y) q) at t) in (suc r.0, omega (arith, r.1), r.2))

pub waits-short : {st : State} {tb : List ℕ} → Held st tb → (x : ℕ) → x < 64 → waits_in tb x ≡ true → get_or (block 23 tb x) 6 0 ≤ 16
waits-short {st} {tb} h x l q =
    let t : T (among x (wait_ids (state_in st tb).waiting)) = subst T (sym q ∙ waits_is h x l) tt in
    let u : T (among x (list_of st.waiting)) = subst (λ (is : List ℕ). T (among x is)) (ids_in (list_of st.waiting)) t in
    let r = among_at x (list_of st.waiting) u in
    let n : r.0 < st.waiting.n = omega (arith, r.1, (waiting-count h).0) in
    subst (λ (i : ℕ). get_or (block 23 tb i) 6 0 ≤ 16) (id_at h r.0 n ∙ r.2) ((readable h).lists r.0 n)
  where
    ids_in : (is : List ℕ) → wait_ids (map (request_in tb) is) ≡ is
    ids_in [] = refl
    ids_in (i ∷ is) = ap (λ (l : List ℕ). i ∷ l) (ids_in is)

-- ---- an operation

counted_one : {st : State} (s : StateM) → st ≡ struct_of s → st.waiting.n ≡ length s.waiting
counted_one {st} s e = ap (λ (x : State). x.waiting.n) e ∙ length-map s.waiting (λ (r : Waiting). r.id)

longer : (r : Waiting) (ws : List Waiting) → length (enqueue r ws) ≡ suc (length ws)
unfolding enqueue
longer r [] = refl
longer r (w ∷ ws) = go (ltb w.prec r.prec) (longer r ws)
  where
    go : (b : Bool) → length (enqueue r ws) ≡ suc (length ws) → length (if b then r ∷ w ∷ ws else w ∷ enqueue r ws) ≡ suc (suc (length ws))
    go true e = refl
    go false e = ap suc e

fewer : (p : Waiting → Bool) (ws : List Waiting) → length (keep p ws) ≤ length ws
unfolding keep
fewer p [] = omega arith
fewer p (w ∷ ws) = go (p w) (fewer p ws)
  where
    go : (b : Bool) → length (keep p ws) ≤ length ws → length (if b then w ∷ keep p ws else keep p ws) ≤ suc (length ws)
    go true e = omega arith
    go false e = omega arith

-- nobody goes, and the request joins where one more waits
stays_balanced : (c : Call) (s : StateM) (ws : List Waiting) {n n' : ℕ} → n ≡ length s.waiting → n' ≡ length ws → Stays c s ws
    → Balanced s.waiting ws 0 (joined_by n n' c.combos)
unfolding weights
stays_balanced c s ws {n} {n'} a b (inl e) =
    let k : n' ≤ n = let f = ap length e in omega (arith, a, b, f) in
    rw (e, le-ltb n n' k) (balanced_same s.waiting)
stays_balanced c s ws {n} {n'} a b (inr j) =
    let k : n < n' = let f = ap length j.2 ∙ longer (asking c) s.waiting in omega (arith, a, b, f) in
    rw (lt-ltb n n' k)
    record {
      js = asking c ∷ [];
      few = omega arith;
      joins = omega arith;
      less = λ i. let f = ap (counted i) j.2 ∙ counted_in_lem i (asking c) s.waiting in omega (arith, f);
      balance = let f = ap weights j.2 ∙ weights_in (asking c) s.waiting in omega (arith, f);
    }

-- an ABORT takes out who has its id
strikes_balanced : {st : State} {tb : List ℕ} → Held st tb → (x : ℕ) → x < 64 → (ms : List ℕ) {us : List Waiting} {n n' : ℕ}
    → us ≡ keep (λ r. not (eqb x r.id)) (state_in st tb).waiting → n ≡ length (state_in st tb).waiting → n' ≡ length us
    → Balanced (state_in st tb).waiting us (wait_word tb x) (joined_by n n' ms)
unfolding weights
strikes_balanced {st} {tb} h x l ms {us} {n} {n'} e a b =
    let vs = (state_in st tb).waiting in
    let k : n' ≤ n = let f = ap length e in let g = fewer (λ r. not (eqb x r.id)) vs in omega (arith, a, b, f, g) in
    rw (le-ltb n n' k)
    record {
      js = [];
      few = omega arith;
      joins = refl;
      less = λ i. let f = ap (counted i) e in let g = counted_sub i (sub_keep (λ r. not (eqb x r.id)) vs) in omega (arith, f, g);
      balance = let f = ap weights e in let g = strike h x l in omega (arith, f, g);
    }

pub begin_abort : {o : Op} {r : Request} {s : State} {ms tb l : List ℕ} → Allowed o r s ms tb l → o ≡ Abort
    → (r.id < 64) × (waits_in tb r.id ≡ true → get_or (block 23 tb r.id) 6 0 ≤ 16)
begin_abort {r = r} {s = s} {ms = ms} {tb = tb} {l = l} a e =
    let b : Allowed Abort r s ms tb l = subst (λ (x : Op). Allowed x r s ms tb l) e a in
    let i = (allowed_abort b).1 in
    (i, waits-short a.held r.id i)

pub acts : (o : OpM) (c : Call) (s : StateM) → acting o c s ≡ act o c s
unfolding acting
acts OPEN c s = refl
acts CLOSE c s = refl
acts ABORT c s = refl
acts (EVENT v) c s = refl
acts (COMMAND n) c s = refl

module _ {r : Request} {s : State} {ms tb l : List ℕ} where
  other_balanced : (o : Op) → (op_in o r.command ≡ ABORT → ⊥) → Allowed o r s ms tb l → {n' : ℕ}
      → n' ≡ length (act (op_in o r.command) (asked_of o r ms (length l)) (state_in s tb)).next.waiting
      → Balanced (state_in s tb).waiting (act (op_in o r.command) (asked_of o r ms (length l)) (state_in s tb)).next.waiting 0 (joined_by s.waiting.n n' ms)
  other_balanced o n a b =
      let c = asked_of o r ms (length l) in
      let u = state_in s tb in
      stays_balanced c u (act (op_in o r.command) c u).next.waiting (counted_one u a.held.struct) b
      (subst (λ (x : OutcomeM). Stays c u x.next.waiting) (acts (op_in o r.command) c u) (acting-stays (op_in o r.command) c u n a.allows))

  by_op : (o : Op) → Allowed o r s ms tb l → {n' : ℕ} → n' ≡ length (act (op_in o r.command) (asked_of o r ms (length l)) (state_in s tb)).next.waiting
      → Balanced (state_in s tb).waiting (act (op_in o r.command) (asked_of o r ms (length l)) (state_in s tb)).next.waiting (gone_by o tb r.id) (joined_by s.waiting.n n' ms)
  by_op Open a b = other_balanced Open (λ q. let z : ◌≡◌ {A = ℕ} 0 1 = cc in omega arith) a b
  by_op Close a b = other_balanced Close (λ q. let z : ◌≡◌ {A = ℕ} 0 1 = cc in omega arith) a b
  by_op Abort a b =
      let c = asked_of Abort r ms (length l) in
      let u = state_in s tb in
      strikes_balanced a.held r.id (allowed_abort a).1 ms (sym (ap (λ (x : OutcomeM). x.next.waiting) (acts ABORT c u)) ∙ abort_keeps c u) (counted_one u a.held.struct) b
  by_op CycleEnded a b = other_balanced CycleEnded (λ q. let z : ◌≡◌ {A = ℕ} 0 1 = cc in omega arith) a b
  by_op GaveUp a b = other_balanced GaveUp (λ q. let z : ◌≡◌ {A = ℕ} 0 1 = cc in omega arith) a b
  by_op Command a b = other_balanced Command (λ q. let z : ◌≡◌ {A = ℕ} 0 1 = cc in omega arith) a b

-- the two lengths that are compared are those before the call and before settling
pub act-joins : {o : Op} {r : Request} {s : State} {ms tb l : List ℕ} → Allowed o r s ms tb l → {d : Outcome} {tb₁ l₁ : List ℕ}
    → Told (act (op_in o r.command) (asked_of o r ms (length l)) (state_in s tb)) l d tb₁ l₁ → {j : ℕ} → j ≡ joined_by s.waiting.n d.state.waiting.n ms
    → j ≡ joined_of accepted (asked_of o r ms (length l)) (state_in s tb)
unfolding joined_of
act-joins {o} {r} {s} {ms} {tb} {l} a {d} t f =
    let c = asked_of o r ms (length l) in
    let u = state_in s tb in
    let n = counted_one u a.held.struct in
    let m = counted_one (act (op_in o r.command) c u).next t.did.struct in
    f ∙ (ap₂ (λ (x y : ℕ). joined_by x y ms) n m ∙ ap (λ (x : OutcomeM). joined_by (length u.waiting) (length x.next.waiting) ms) (sym (acts (op_in o r.command) c u)))

pub act_balanced : {o : Op} {r : Request} {s : State} {ms tb l : List ℕ} → Allowed o r s ms tb l → {d : Outcome} {tb₁ l₁ : List ℕ}
    → Told (act (op_in o r.command) (asked_of o r ms (length l)) (state_in s tb)) l d tb₁ l₁ → {g j : ℕ} → g ≡ gone_by o tb r.id
    → j ≡ joined_by s.waiting.n d.state.waiting.n ms
    → Balanced (state_in s tb).waiting (act (op_in o r.command) (asked_of o r ms (length l)) (state_in s tb)).next.waiting g j
act_balanced {o} {r} {s} {ms} {tb} {l} a {d} t e f =
    rw (e, f) (by_op o a (counted_one (act (op_in o r.command) (asked_of o r ms (length l)) (state_in s tb)).next t.did.struct))

-- settling then takes away some
pub settle_balanced : {vs : List Waiting} (s : StateM) {g j : ℕ} (x : ℕ) → Balanced vs s.waiting g j → weights (settle s).state.waiting + x ≡ weights s.waiting
    → Balanced vs (settle s).state.waiting (g + x) j
settle_balanced {vs} s x b e =
    record {
      js = b.js;
      few = b.few;
      joins = b.joins;
      less = λ i. omega (arith, b.less i, counted_sub i (settle_sub s));
      balance = omega (arith, b.balance, e);
    }

-- ---- who joined is said, so the balance says who left

pub one_moved : {f : Refusal} {c : Call} {s : StateM} {l₁ l₂ j₁ j₂ : ℕ} → Moved f c s l₁ j₁ → Moved f c s l₂ j₂ → (l₁ ≡ l₂) × (j₁ ≡ j₂)
one_moved a b =
    let e = a.joins ∙ sym b.joins in
    (omega (arith, a.balance.balance, b.balance.balance, e), e)

-- 64 wait at most, and no more join, so that all the words fit
pub balanced_fits : {st : State} {tb : List ℕ} → Held st tb → {ts : List Waiting} {g j : ℕ} → Balanced (state_in st tb).waiting ts g j → g ≤ 9259542123273814144
balanced_fits {st} {tb} h b =
    omega (arith, b.balance, b.joins, b.few, weights_most (state_in st tb).waiting, weights_most b.js, counted_one (state_in st tb) h.struct, (waiting-count h).1)
