-- Why refusal, operation and settling make the machine's call on eight channels: what is refused with a number, what is not, and
-- what the state before settling gives. Assumes nothing.
use Prim.Native.Nat.{ℕ, zero, suc, ◌+◌, ◌≤◌, ◌<◌}
use mathlib.Core.Path.{◌≡◌, refl, ap, ap₂, sym, subst, ◌∙◌}
use mathlib.Core.Bool.{Bool, true, false, not, ◌&&◌}
use mathlib.Core.List.{List, [], ◌∷◌, ◌++◌}
use native.Mathlib.Omega.{arith}
use native.Mathlib.Nat.{zero-add}
use lib.Dec.{T, eqb, leb, ltb, nltb→le, le→leb, leb→le, nleb→lt}
use lib.ListN.{length, get_or, length-append}
use borrow.Author.Tests.{le-ltb, lt-ltb}
use Rattle.std.specs.Prelude.{if◌then◌else◌}
use Rattle.answers.specs.machine.Lists.{all}
use Rattle.answers.specs.machine.State.{State as StateM, Outcome as OutcomeM, Call, Op as OpM, OPEN, CLOSE, ABORT, EVENT, COMMAND}
use Rattle.answers.specs.machine.Choosing.{look}
use Rattle.answers.specs.machine.Numbers.{CYCLES}
use Rattle.answers.specs.machine.Commands.{finished, silent, done, cycles_in}
use Rattle.answers.specs.machine.Allocating.{do_open}
use Rattle.answers.specs.machine.Settling.{settle}
use Rattle.answers.specs.machine.Kinds.{kind}
use Rattle.answers.specs.machine.Refusals.{Refusal, accepted, refused, first, refusal, refuse}
use Rattle.answers.specs.machine.Call.{settling, open_settling, accept, answering, call, in_range}
use Rattle.answers.proofs.machine.Tests.{by_test, test_true, test_false, and_right, and_both}
use Rattle.display.proofs.machine_laws.Refusals.{first_past}
use Rattle.answers.proofs.machine.Steps.{first_none}
use Rattle.display.specs.machine_laws.Sound.{Parts}
use Rattle.display.proofs.machine_laws.Replies.{call-replies}
use Rattle.display.proofs.machine_laws.KeepingSettle.{look_unlocked}
use Rattle.display.proofs.machine_laws.KeepingCalls.{id-small, range-prec, range-key, open_sound, close_sound, abort_sound, event_sound, perform-sound}
use Rattle.display.specs.machine_laws.Board.{Wide}
use Rattle.display.proofs.machine_laws.Board.{open_wide, close_wide, abort_wide, event_wide, perform-wide}
use Rattle.answers.specs.reply.Replies.{sent}
use Rattle.answers.proofs.reply.Laws.{sent-append, length-sent}
use Rattle.answers.specs.store.declared.State.{State}
use Rattle.answers.specs.store.Store.{state_in, Held}
use Rattle.answers.specs.store.Work.{Ready, Did}
use Rattle.answers.proofs.store.Store.{held_parts, held_eight, held_next}
use Rattle.answers.specs.declared.Request.{Request}
use Rattle.answers.specs.declared.Answer.{Answer}
use Rattle.answers.specs.declared.Outcome.{Outcome}
use Rattle.answers.specs.Answers.{Told}
use Rattle.answers.proofs.Laws.{told_as}
use Rattle.operations.specs.refusals.declared.Op.{Op}
use Rattle.operations.specs.refusals.declared.Op.TheVariants.{Open, Close, Abort, CycleEnded, GaveUp, Command}
use Rattle.operations.specs.refusals.Refusals.{op_in, asked_of}
use Rattle.operations.specs.steps.Steps.{number_of}
use Rattle.operations.specs.Operations.{act, Allowed}
use Rattle.display.specs.Looks.{looks, acting, looks_after, looked_by}
use Rattle.settling.specs.lanes.Lanes.{weights, Balanced}
use Rattle.settling.proofs.lanes.Laws.{balanced_same}
use Rattle.deciding.proofs.Moves.{acts, act-joins, settle_balanced}
use Rattle.deciding.specs.Deciding.{rests_at, decision_of, joined_by, joined_of, Moved, Decided}
use Rattle.refusing.specs.Refusing.{due_replies, Refused}

-- ---- the number of a refusal

-- a number that is not 0 is the machine's refusal
pub number-refused : (f : Refusal) (e : ℕ) → e ≡ number_of f → (e ≡ 0 → ⊥) → f ≡ refused e
number-refused accepted e q n = absurd (n q)
number-refused (refused x) e q n = ap refused (sym q)

-- no step has the number 0
abbrev Numbered : List (Bool × ℕ) → Type 0
Numbered ts = T (all (λ t. not (eqb t.1 0)) ts)

first_nonzero : (ts : List (Bool × ℕ)) → Numbered ts → 0 ≡ number_of (first ts) → first ts ≡ accepted
unfolding first all
first_nonzero [] n q = refl
first_nonzero (t ∷ ts) n q = go t.0 t.1 n q (first_nonzero ts)
  where
    go : (b : Bool) (e : ℕ) → T (not (eqb e 0) && all (λ t. not (eqb t.1 0)) ts) → 0 ≡ number_of (if b then refused e else first ts)
        → (Numbered ts → 0 ≡ number_of (first ts) → first ts ≡ accepted) → (if b then refused e else first ts) ≡ accepted
    go true zero m z f = absurd m
    go true (suc e) m z f = absurd (omega arith)
    go false zero m z f = absurd m
    go false (suc e) m z f = f (and_right (not (eqb (suc e) 0)) (all (λ t. not (eqb t.1 0)) ts) m) z

pub zero_accepted : (o : OpM) (c : Call) (s : StateM) → 0 ≡ number_of (refusal o c s) → refusal o c s ≡ accepted
unfolding refusal
zero_accepted OPEN c s q = first_nonzero _ (unfold all in tt) q
zero_accepted CLOSE c s q = first_nonzero _ (unfold all in tt) q
zero_accepted ABORT c s q = first_nonzero _ (unfold all in tt) q
zero_accepted (EVENT e) c s q = first_nonzero _ (unfold all in tt) q
zero_accepted (COMMAND n) c s q = first_nonzero _ (unfold all in tt) q

-- a refusal with a number above 5 comes after the test of the reply list
second_past : (a b : Bool) (ts : List (Bool × ℕ)) (e : ℕ) → first ((a, 1) ∷ (b, 5) ∷ ts) ≡ refused e → 5 < e → T (not b)
second_past a b ts e q h = (first_past (b, 5) ts e (first_past (a, 1) ((b, 5) ∷ ts) e q (λ z. omega arith)).1 (λ z. omega arith)).0

pub late_room : (o : OpM) (c : Call) (s : StateM) (e : ℕ) → refusal o c s ≡ refused e → 5 < e → 64 ≤ c.room
unfolding refusal
late_room o c s e q h = nltb→le c.room 64 (go o q)
  where
    go : (p : OpM) → refusal p c s ≡ refused e → T (not (ltb c.room 64))
    go OPEN z = second_past _ _ _ e z h
    go CLOSE z = second_past _ _ _ e z h
    go ABORT z = second_past _ _ _ e z h
    go (EVENT v) z = second_past _ _ _ e z h
    go (COMMAND n) z = second_past _ _ _ e z h

accepted_room : (o : OpM) (c : Call) (s : StateM) → refusal o c s ≡ accepted → 64 ≤ c.room
unfolding refusal
accepted_room o c s q = nltb→le c.room 64 (go o q)
  where
    go : (p : OpM) → refusal p c s ≡ accepted → T (not (ltb c.room 64))
    go OPEN z = (first_none _ z).1.0
    go CLOSE z = (first_none _ z).1.0
    go ABORT z = (first_none _ z).1.0
    go (EVENT v) z = (first_none _ z).1.0
    go (COMMAND n) z = (first_none _ z).1.0

-- ---- a call that is refused

refuse_due : (o : Op) (e : ℕ) (r : Request) (ms : List ℕ) (len : ℕ) (s : StateM) → refuse (op_in o r.command) e (asked_of o r ms len) s
    ≡ record { answer = done e 0 r.key 255; replies = due_replies o e r; next = s }
unfolding refuse silent finished
refuse_due Open e r ms len s = refl
refuse_due Close e r ms len s = refl
refuse_due Abort e r ms len s = refl
refuse_due CycleEnded e r ms len s = refl
refuse_due GaveUp e r ms len s = refl
refuse_due Command e r ms len s =
    by_test (leb e 8) (λ t. rw (test_true (leb e 8) t, le-ltb 8 e (leb→le e 8 t))) (λ t. rw (test_false (leb e 8) t, lt-ltb 8 e (nleb→lt e 8 t)))

refused_decided : (e : ℕ) → (e ≡ 0 → ⊥) → decision_of e ≡ refused e
refused_decided zero n = absurd (n refl)
refused_decided (suc e) n = refl

pub refused-told : {o : Op} {r : Request} {s : State} {ms tb l : List ℕ} {e : ℕ} → Decided o e r s ms tb l → (e ≡ 0 → ⊥)
    → {d : Outcome} {l' : List ℕ} → Refused o e r s l d l' → Told (answering (decision_of e) (asked_of o r ms (length l)) (state_in s tb)) l d tb l'
unfolding answering
refused-told {o} {r} {s} {ms} {tb} {l} {e} h n f =
    told_as (ap (λ (x : Refusal). answering x (asked_of o r ms (length l)) (state_in s tb)) (refused_decided e n) ∙ refuse_due o e r ms (length l) (state_in s tb))
    record {
      answer = f.answer;
      did =
          record {
            struct = f.state ∙ h.held.struct;
            table = h.held.table;
            list = f.list;
            count = f.count ∙ sym (zero-add (length (due_replies o e r)));
          };
    }

-- nobody comes or goes
pub refused-moved : {o : Op} {r : Request} {s : State} {ms tb l : List ℕ} {e : ℕ} → Decided o e r s ms tb l → (e ≡ 0 → ⊥)
    → Moved (decision_of e) (asked_of o r ms (length l)) (state_in s tb) 0 0
unfolding answering joined_of
refused-moved {o} {r} {s} {ms} {tb} {l} {e} h n =
    let c = asked_of o r ms (length l) in
    let q = ap (λ (x : Refusal). answering x (asked_of o r ms (length l)) (state_in s tb)) (refused_decided e n) ∙ refuse_due o e r ms (length l) (state_in s tb) in
    record {
      joins = ap (λ (x : Refusal). joined_of x c (state_in s tb)) (sym (refused_decided e n));
      balance = subst (λ (u : OutcomeM). Balanced (state_in s tb).waiting u.next.waiting 0 0) (sym q) (balanced_same (state_in s tb).waiting);
    }

-- ---- a call that is not refused

pub zero_allowed : {o : Op} {r : Request} {s : State} {ms tb l : List ℕ} {e : ℕ} → Decided o e r s ms tb l → e ≡ 0 → Allowed o r s ms tb l
zero_allowed h z = record { held = h.held; allows = h.allows z }

zero_decided : (e : ℕ) → e ≡ 0 → decision_of e ≡ accepted
zero_decided e z = ap decision_of z

-- two bytes are a count of cycles
pub bytes-cycles : (ms : List ℕ) → ((i : ℕ) → get_or ms i 0 < 256) → cycles_in ms ≤ CYCLES
unfolding cycles_in
bytes-cycles [] h = omega arith
bytes-cycles (b ∷ ms) h = omega (arith, h 0, h 1)

act-sound : (o : OpM) (c : Call) (s : StateM) → Parts s → T (in_range c) → cycles_in c.combos ≤ CYCLES → refusal o c s ≡ accepted
    → Parts (act o c s).next
unfolding refusal do_open
act-sound OPEN c s p r y e =
    open_sound (look c.prec c.combos s.channels) c s p (look_unlocked c.prec c.combos s.channels) (range-prec c r) (range-key c r)
    (first_none _ e).1.1.1.1.0
act-sound CLOSE c s p r y e = close_sound c s p
act-sound ABORT c s p r y e = abort_sound c s p
act-sound (EVENT v) c s p r y e = event_sound v c s p
act-sound (COMMAND k) c s p r y e =
    let n = first_none _ e in
    perform-sound (kind k) c s p r (id-small c.id n.1.1.0) n.1.1.1.1.0 n.1.1.1.1.1.1.1.0 n.1.1.1.1.1.1.1.1.0
    n.1.1.1.1.1.1.1.1.1.0 (λ _. y)

act-wide : (o : OpM) (c : Call) (s : StateM) → Wide s (act o c s).next
act-wide OPEN c s = open_wide c s
act-wide CLOSE c s = close_wide c s
act-wide ABORT c s = abort_wide c s
act-wide (EVENT v) c s = event_wide v c s
act-wide (COMMAND n) c s = perform-wide (kind n) c s

-- an operation and then settling, but for an OPEN answered -11
accepts : (o : Op) (n : ℕ) (c : Call) (s : StateM) → accept (op_in o n) c s
    ≡ (if rests_at o (act (op_in o n) c s).answer.error then act (op_in o n) c s else settling (act (op_in o n) c s))
unfolding accept open_settling
accepts Open n c s = refl
accepts Close n c s = refl
accepts Abort n c s = refl
accepts CycleEnded n c s = refl
accepts GaveUp n c s = refl
accepts Command n c s = refl

accepted-call : (s : StateM) (c : Call) → refusal c.op c s ≡ accepted → call s c ≡ accept c.op c s
unfolding call answering
accepted-call s c q = rw q

module _ {o : Op} {r : Request} {s : State} {ms tb l : List ℕ} (a : Allowed o r s ms tb l) {d : Outcome} {tb₁ l₁ : List ℕ}
    (t : Told (act (op_in o r.command) (asked_of o r ms (length l)) (state_in s tb)) l d tb₁ l₁) where
  abbrev c₀ : Call
  c₀ = asked_of o r ms (length l)

  abbrev s₀ : StateM
  s₀ = state_in s tb

  abbrev o₁ : OutcomeM
  o₁ = act (op_in o r.command) c₀ s₀

  error-told : d.answer.error ≡ o₁.answer.error
  error-told = ap (λ (x : Answer). x.error) t.answer

  called : call s₀ c₀ ≡ (if rests_at o d.answer.error then o₁ else settling o₁)
  called = accepted-call s₀ c₀ a.allows ∙ accepts o r.command c₀ s₀ ∙ ap (λ (x : ℕ). if rests_at o x then o₁ else settling o₁) (sym error-told)

  -- what is decided by 0 is the call on eight channels
  zero_call : (e : ℕ) → e ≡ 0 → answering (decision_of e) c₀ s₀ ≡ call s₀ c₀
  unfolding answering
  zero_call e z = ap (λ (x : Refusal). answering x c₀ s₀) (zero_decided e z) ∙ sym (accepted-call s₀ c₀ a.allows)

  pub resting_told : {e : ℕ} → e ≡ 0 → rests_at o d.answer.error ≡ true → Told (answering (decision_of e) c₀ s₀) l d tb₁ l₁
  resting_told {e} z q = told_as (zero_call e z ∙ (called ∙ ap (λ (b : Bool). if b then o₁ else settling o₁) q)) t

  joins_zero : (e : ℕ) → e ≡ 0 → {j : ℕ} → j ≡ joined_by s.waiting.n d.state.waiting.n ms → j ≡ joined_of (decision_of e) c₀ s₀
  joins_zero e z w = act-joins a t w ∙ ap (λ (x : Refusal). joined_of x c₀ s₀) (sym (zero_decided e z))

  pub resting_moved : {e : ℕ} → e ≡ 0 → rests_at o d.answer.error ≡ true → {g j : ℕ} → j ≡ joined_by s.waiting.n d.state.waiting.n ms
      → Balanced (state_in s tb).waiting o₁.next.waiting g j → Moved (decision_of e) c₀ s₀ g j
  resting_moved {e} z q {g} {j} w b =
      record {
        joins = joins_zero e z w;
        balance =
            subst (λ (u : OutcomeM). Balanced (state_in s tb).waiting u.next.waiting g j) (sym (zero_call e z ∙ (called ∙ ap (λ (b : Bool). if b then o₁ else settling o₁) q))) b;
      }

  module _ (q : rests_at o d.answer.error ≡ false) where
    settles : call s₀ c₀ ≡ settling o₁
    settles = called ∙ ap (λ (b : Bool). if b then o₁ else settling o₁) q

    few : length o₁.replies + length (settle o₁.next).replies ≤ 64
    unfolding settling
    few =
        let z = (call-replies s₀ c₀ a.held.sane).1 in
        let y : length (o₁.replies ++ (settle o₁.next).replies) ≤ 64 = rw (settles) at z in
        rw (length-append o₁.replies (settle o₁.next).replies) at y

    module _ (range : (r.prec ≤ 255) × (r.key ≤ 65535)) (bytes : (i : ℕ) → get_or ms i 0 < 256) where
      in_range_lem : T (in_range c₀)
      unfolding in_range
      in_range_lem = and_both (leb r.prec 255) (leb r.key 65535) (le→leb r.prec 255 range.0) (le→leb r.key 65535 range.1)

      next_held : Held d.state tb₁ × (state_in d.state tb₁ ≡ o₁.next)
      next_held =
          held_next o₁.next d.state tb₁ (act-sound (op_in o r.command) c₀ s₀ (held_parts a.held) in_range_lem (bytes-cycles ms bytes) a.allows)
          (act-wide (op_in o r.command) c₀ s₀ ∙ held_eight a.held)
          t.did.struct t.did.table

      room : 384 ≤ length l
      room = let z = accepted_room (op_in o r.command) c₀ s₀ a.allows in omega arith

      same_list : length l₁ ≡ length l
      same_list = ap length t.did.list ∙ length-sent l 0 o₁.replies (let f = few in let m = room in omega arith)

      pub settle-ready : Ready d.state tb₁ l₁ d.n (length (settle (state_in d.state tb₁)).replies)
      settle-ready =
          record {
            held = next_held.0;
            room = let m = room in let e = same_list in omega arith;
            fits = rw (next_held.1, t.did.count, zero-add (length o₁.replies)) few;
          }

      pub settled_told : {st : State} {tb' l' : List ℕ} {n : ℕ}
          → Did (settle (state_in d.state tb₁)).state (settle (state_in d.state tb₁)).replies l₁ d.n st tb' l' n
          → {e : ℕ} → e ≡ 0
          → Told (answering (decision_of e) (asked_of o r ms (length l)) (state_in s tb)) l
          (record { answer = d.answer; state = st; n = n }) tb' l'
      unfolding settling
      settled_told {st} {tb'} {l'} {n} w {e} z =
          let f = few in
          let m = room in
          let v : Did (settle o₁.next).state (settle o₁.next).replies l₁ d.n st tb' l' n = rw next_held.1 at w in
          told_as (zero_call e z ∙ settles)
          record {
            answer = t.answer;
            did = record {
              struct = v.struct;
              table = v.table;
              list = v.list ∙ ap₂ (λ (x : List ℕ) (k : ℕ). sent x k (settle o₁.next).replies) t.did.list t.did.count ∙ sent-append l 0 o₁.replies (settle o₁.next).replies (omega arith);
              count = v.count ∙ ap (λ (k : ℕ). k + length (settle o₁.next).replies) (t.did.count ∙ zero-add (length o₁.replies)) ∙ sym (zero-add _) ∙ ap (λ (k : ℕ). 0 + k) (sym (length-append o₁.replies (settle o₁.next).replies));
            };
          }

      pub settled_moved : {e : ℕ} → e ≡ 0 → {g j : ℕ} (x : ℕ) → j ≡ joined_by s.waiting.n d.state.waiting.n ms → Balanced (state_in s tb).waiting o₁.next.waiting g j
          → weights (settle (state_in d.state tb₁)).state.waiting + x ≡ weights (state_in d.state tb₁).waiting
          → Moved (decision_of e) c₀ s₀ (g + x) j
      unfolding settling
      settled_moved {e} z {g} {j} x y b w =
          let v : weights (settle o₁.next).state.waiting + x ≡ weights o₁.next.waiting = sym (ap (λ (u : StateM). weights (settle u).state.waiting + x) next_held.1) ∙ (w ∙ ap (λ (u : StateM). weights u.waiting) next_held.1) in
          record {
            joins = joins_zero e z y;
            balance = subst (λ (u : OutcomeM). Balanced (state_in s tb).waiting u.next.waiting (g + x) j) (sym (zero_call e z ∙ settles)) (settle_balanced o₁.next x b v);
          }

-- ---- the looks of the last settling

pub refused-looks : {o : Op} {e : ℕ} {r : Request} {s : State} {ms tb l : List ℕ} → Decided o e r s ms tb l → (e ≡ 0 → ⊥)
    → {k : ℕ} → k ≡ looked_by (decision_of e) (asked_of o r ms (length l)) (state_in s tb) k
unfolding looked_by
refused-looks {o} {e} {r} {s} {ms} {tb} {l} _ n {k} = ap (λ (x : Refusal). looked_by x (asked_of o r ms (length l)) (state_in s tb) k) (sym (refused_decided e n))

-- an OPEN answered -11 leaves the number, and any other settling sets it
looks_by : (o : Op) (n : ℕ) (u : OutcomeM) (k : ℕ) → looks_after (op_in o n) u k ≡ (if rests_at o u.answer.error then k else looks u.next)
unfolding looks_after
looks_by Open n u k = refl
looks_by Close n u k = refl
looks_by Abort n u k = refl
looks_by CycleEnded n u k = refl
looks_by GaveUp n u k = refl
looks_by Command n u k = refl

module _ {o : Op} {r : Request} {s : State} {ms tb l : List ℕ} (a : Allowed o r s ms tb l) {d : Outcome} {tb₁ l₁ : List ℕ}
    (t : Told (act (op_in o r.command) (asked_of o r ms (length l)) (state_in s tb)) l d tb₁ l₁) where
  looks_are : (e k : ℕ) → e ≡ 0 → looked_by (decision_of e) (c₀ a t) (s₀ a t) k ≡ (if rests_at o d.answer.error then k else looks (o₁ a t).next)
  unfolding looked_by
  looks_are e k z =
      ap (λ (x : Refusal). looked_by x (c₀ a t) (s₀ a t) k) (zero_decided e z)
      ∙ (ap (λ (u : OutcomeM). looks_after (op_in o r.command) u k) (acts (op_in o r.command) (c₀ a t) (s₀ a t))
      ∙ (looks_by o r.command (o₁ a t) k ∙ ap (λ (x : ℕ). if rests_at o x then k else looks (o₁ a t).next) (sym (error-told a t))))

  pub resting_looks : {e k : ℕ} → e ≡ 0 → rests_at o d.answer.error ≡ true → k ≡ looked_by (decision_of e) (asked_of o r ms (length l)) (state_in s tb) k
  resting_looks {e} {k} z q = sym (looks_are e k z ∙ ap (λ (b : Bool). if b then k else looks (o₁ a t).next) q)

  pub settled_looks : (range : (r.prec ≤ 255) × (r.key ≤ 65535)) → ((i : ℕ) → get_or ms i 0 < 256) → {e x : ℕ} (k : ℕ) → e ≡ 0 → rests_at o d.answer.error ≡ false
      → x ≡ looks (state_in d.state tb₁) → x ≡ looked_by (decision_of e) (asked_of o r ms (length l)) (state_in s tb) k
  settled_looks range bytes {e} {x} k z q w =
      w ∙ (ap looks (next_held a t q range bytes).1 ∙ sym (looks_are e k z ∙ ap (λ (b : Bool). if b then k else looks (o₁ a t).next) q))
