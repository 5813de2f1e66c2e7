-- Document 02, #102, of every old log, whatever its ids: the output is that of before #101, where each line's replies to ids below 32 stand
-- first, and READ answers FF where it finds a write of the other half. On a board of any number of channels. Assumes nothing else.
use Prim.Native.Nat.{ℕ}
use mathlib.Core.Path.{◌≡◌, refl, ap, sym, subst, ◌∙◌}
use mathlib.Core.Logic.{◌⊎◌, inl, inr}
use mathlib.Core.Bool.{Bool, true, false, not}
use mathlib.Core.List.{List, [], ◌∷◌, ◌++◌, map, map-append}
use mathlib.Core.Option.{Option, none, some}
use native.Mathlib.Omega.{arith}
use lib.Dec.{T, T_not, eqb, leb, ltb}
use lib.ListN.{length}
use Rattle.machine.specs.Numbers.{NONE, NOALLOCATION, CMD_READ, OTHERDESK}
use Rattle.std.specs.Prelude.{if◌then◌else◌}
use Rattle.machine.specs.Lists.{all, keep}
use Rattle.machine.specs.State.{State, Reply, Answer, Outcome, Call, fresh_on}
use Rattle.machine.specs.Desks.{DESK_A, DESK_B, HALF, desk_of, front_for, replies_to, halves}
use Rattle.machine.specs.Kinds.{READ, carries}
use Rattle.machine.specs.Commands.{matches, done, silent, do_read}
use Rattle.machine.specs.Answered.{LastByte}
use Rattle.machine.specs.Call.{perform, accept, settling, open_settling, answering, call}
use Rattle.machine.specs.Log.{Fed, lines, opened, digit, joined, unhex, hex_digit, line, reply_line, answer_line, reply_lines, told, outcome_of, feed, run, log}
use Rattle.machine.proofs.Tests.{if_elim, by_test, test_true, test_false, and_left, and_right}
use Rattle.machine.proofs.Answered.{perform-answered}
use Rattle.old_logs.specs.Old
use Rattle.old_logs.specs.Now.{now_write, now, now_op, now_call, now_reply, now_answer, now_outcome, now_fed}
use Rattle.old_logs.specs.OldLogs.{old_op, old_call, old_line, OldLog}
use Rattle.old_logs.specs.Both.{in_halves, hidden, hides, both_told, both_run}
use Rattle.old_logs.proofs.Lists.{if_as, keep_map}
use Rattle.old_logs.proofs.Maps.{at_now}
use Rattle.old_logs.proofs.Commands.{low-now, finished-now, do_close-now, do_abort-now, do_event-now}
use Rattle.old_logs.proofs.Allocating.{do_open-now}
use Rattle.old_logs.proofs.Refusals.{now_kind, now_refusal, old_command_lem, kind-now, carries_none, refusal-now, Silent, was_silent, refuse-now}
use Rattle.old_logs.proofs.Calls.{is_read, perform-now, settling-now, open_settling-now}
use Rattle.old_logs.proofs.OldLogs.{now_frame, frame-now, reply_lines-now, fresh-now}

-- an outcome with the answer that is shown
abbrev shown : Old.Op → Old.Call → Old.Outcome → Old.Outcome
shown op c o = record { answer = hides op c.id o.answer; replies = o.replies; next = o.next }

-- ---- what is hidden

-- FF stays FF
hidden_none : (i : ℕ) (a : Old.Answer) → a.extra ≡ NONE → hidden i a ≡ a
unfolding hidden
hidden_none i a e =
    let f : (if eqb (desk_of a.extra) (desk_of i) then a.extra else NONE) ≡ a.extra = if_elim (λ (x : ℕ). x ≡ a.extra)
    (eqb (desk_of a.extra) (desk_of i)) (λ _. refl) (λ _. sym e) in
    ap (λ (x : ℕ). record { outstanding = a.outstanding; error = a.error; map = a.map; key = a.key; extra = x }) f

shown_none : (n : ℕ) (c : Old.Call) (o : Old.Outcome) → o.answer.extra ≡ NONE → shown (Old.COMMAND n) c o ≡ o
unfolding hides
shown_none n c o e = ap (λ (a : Old.Answer). record { answer = a; replies = o.replies; next = o.next }) (hidden_none c.id o.answer e)

-- ---- READ

front_both : (d : ℕ) (is : List ℕ) → front_for d (map now_write is) ≡ (if eqb (desk_of (Old.front is)) d then Old.front is else NONE)
unfolding front_for Old.front
front_both d [] = if_elim (λ (x : ℕ). NONE ≡ x) (eqb (desk_of NONE) d) (λ _. refl) (λ _. refl)
front_both d (i ∷ is) = refl

read_both : (d : ℕ) (b : Bool) (is : List ℕ)
    → (if b then NONE else front_for d (map now_write is))
    ≡ (if eqb (desk_of (if b then NONE else Old.front is)) d then (if b then NONE else Old.front is) else NONE)
read_both d true is = if_elim (λ (x : ℕ). NONE ≡ x) (eqb (desk_of NONE) d) (λ _. refl) (λ _. refl)
read_both d false is = front_both d is

do_read_both : (n : ℕ) (c : Old.Call) (s : Old.State) → do_read (now_call c) (now s) ≡ now_outcome (shown (Old.COMMAND n) c (Old.do_read c s))
unfolding do_read matches done hides hidden Old.do_read Old.matches Old.done Old.finished
do_read_both n c s =
    let m = Old.lowest (length s.channels) c.map in
    let h = Old.at m s.channels in
    let x : ℕ = if h.stopped then NONE else Old.front h.writes in
    rw (low-now s.channels c.map, at_now m s.channels, read_both (desk_of c.id) h.stopped h.writes)
    (if_as (λ (o : Old.Outcome). now_outcome (shown (Old.COMMAND n) c o)) (Old.matches c.key h)
    (λ _. finished-now CMD_READ c (hidden c.id (Old.done 0 m c.key x)) [] s)
    (λ _. finished-now CMD_READ c (Old.done NOALLOCATION 0 c.key NONE) [] s
    ∙ ap now_outcome (sym (shown_none n c (Old.finished CMD_READ c (Old.done NOALLOCATION 0 c.key NONE) [] s) refl))))

-- ---- the commands

-- a command other than READ answers FF
answers_none : (k : Old.Kind) (c : Old.Call) (s : Old.State) → T (not (is_read k)) → (perform (now_kind k) (now_call c) (now s)).answer.extra ≡ NONE
unfolding LastByte
answers_none k c s t = last (perform-answered 0 (now_call c) (now s) (now_kind k) (λ e. absurd (other k t e))).last
  where
    other : (j : Old.Kind) → T (not (is_read j)) → now_kind j ≡ READ → ⊥
    other Old.RESET u e = absurd (let z : ◌≡◌ {A = ℕ} 0 1 = cc in omega arith)
    other Old.READ u e = u
    other Old.WRITE u e = absurd (let z : ◌≡◌ {A = ℕ} 0 1 = cc in omega arith)
    other Old.UPDATE u e = absurd (let z : ◌≡◌ {A = ℕ} 0 1 = cc in omega arith)
    other Old.CLEAR u e = absurd (let z : ◌≡◌ {A = ℕ} 0 1 = cc in omega arith)
    other Old.STOP u e = absurd (let z : ◌≡◌ {A = ℕ} 0 1 = cc in omega arith)
    other Old.START u e = absurd (let z : ◌≡◌ {A = ℕ} 0 1 = cc in omega arith)
    other Old.FLUSH u e = absurd (let z : ◌≡◌ {A = ℕ} 0 1 = cc in omega arith)
    other Old.FREE u e = absurd (let z : ◌≡◌ {A = ℕ} 0 1 = cc in omega arith)
    other Old.SETPREC u e = absurd (let z : ◌≡◌ {A = ℕ} 0 1 = cc in omega arith)
    other Old.LOCK u e = absurd (let z : ◌≡◌ {A = ℕ} 0 1 = cc in omega arith)
    other Old.ALLOCATE u e = absurd (let z : ◌≡◌ {A = ℕ} 0 1 = cc in omega arith)
    other Old.UNKNOWN u e = absurd (let z : ◌≡◌ {A = ℕ} 0 1 = cc in omega arith)

    last : ((perform (now_kind k) (now_call c) (now s)).answer.extra ≡ NONE) ⊎ ((◌≡◌ {A = ℕ} 0 CMD_READ) × ((perform (now_kind k) (now_call c) (now s)).answer.error ≡ 0))
        → (perform (now_kind k) (now_call c) (now s)).answer.extra ≡ NONE
    last (inl e) = e
    last (inr e) = absurd (omega (arith, e.0))

perform_both : (n : ℕ) (k : Old.Kind) (c : Old.Call) (s : Old.State) → (T (carries (now_kind k)) → c.combos ≡ [])
    → perform (now_kind k) (now_call c) (now s) ≡ now_outcome (shown (Old.COMMAND n) c (Old.perform k c s))
perform_both n k c s e = by_test (is_read k) (reads k) others
  where
    reads : (j : Old.Kind) → T (is_read j) → perform (now_kind j) (now_call c) (now s) ≡ now_outcome (shown (Old.COMMAND n) c (Old.perform j c s))
    reads Old.RESET t = absurd t
    reads Old.READ t = unfold perform Old.perform in do_read_both n c s
    reads Old.WRITE t = absurd t
    reads Old.UPDATE t = absurd t
    reads Old.CLEAR t = absurd t
    reads Old.STOP t = absurd t
    reads Old.START t = absurd t
    reads Old.FLUSH t = absurd t
    reads Old.FREE t = absurd t
    reads Old.SETPREC t = absurd t
    reads Old.LOCK t = absurd t
    reads Old.ALLOCATE t = absurd t
    reads Old.UNKNOWN t = absurd t

    others : T (not (is_read k)) → perform (now_kind k) (now_call c) (now s) ≡ now_outcome (shown (Old.COMMAND n) c (Old.perform k c s))
    others t =
        let p = perform-now k c s (λ u. absurd (T_not (is_read k) t u)) e in
        let x : (Old.perform k c s).answer.extra ≡ NONE = ap (λ (o : Outcome). o.answer.extra) (sym p) ∙ answers_none k c s t in
        p ∙ ap now_outcome (sym (shown_none n c (Old.perform k c s) x))

-- ---- a call

settling_both : (op : Old.Op) (c : Old.Call) (o : Old.Outcome) → settling (now_outcome (shown op c o)) ≡ now_outcome (shown op c (Old.settling o))
unfolding Old.settling
settling_both op c o = settling-now (shown op c o)

accept_both : (op : Old.Op) (c : Old.Call) (s : Old.State) → T (old_op (now_op op) c.combos)
    → accept (now_op op) (now_call c) (now s) ≡ now_outcome (shown op c (Old.accept op c s))
unfolding accept hides Old.accept
accept_both Old.OPEN c s t = rw (do_open-now c s) (open_settling-now (Old.do_open c s))
accept_both Old.CLOSE c s t = rw (do_close-now c s) (settling-now (Old.do_close c s))
accept_both Old.ABORT c s t = rw (do_abort-now c s) (settling-now (Old.do_abort c s))
accept_both Old.EVENT c s t = ap settling (do_event-now c s) ∙ settling-now (Old.do_event c s)
accept_both (Old.COMMAND n) c s t =
    let o = old_command_lem n c.combos (unfold old_op in t) in
    let e = kind-now n c.combos o in
    let p = perform_both n (Old.kind n) c s (λ u. carries_none n c.combos o (rw e u)) in
    rw (e, p) (settling_both (Old.COMMAND n) c (Old.perform (Old.kind n) c s))

refuse_both : (op : Old.Op) (e : ℕ) (c : Old.Call) (s : Old.State) → shown op c (Old.refuse op e c s) ≡ Old.refuse op e c s
unfolding hides Old.refuse Old.silent Old.finished Old.done
refuse_both Old.OPEN e c s = refl
refuse_both Old.CLOSE e c s = refl
refuse_both Old.ABORT e c s = refl
refuse_both Old.EVENT e c s = refl
refuse_both (Old.COMMAND n) e c s =
    if_elim (λ (o : Old.Outcome). shown (Old.COMMAND n) c o ≡ o) (leb e 5) (λ _. shown_none n c _ refl) (λ _. shown_none n c _ refl)

answering_both : (r : Old.Refusal) (c : Old.Call) (s : Old.State) → Silent r → T (old_op (now_op c.op) c.combos)
    → answering (now_refusal r) (now_call c) (now s) ≡ now_outcome (shown c.op c (Old.answering r c s))
unfolding answering Old.answering
answering_both Old.accepted c s z t = accept_both c.op c s t
answering_both (Old.refused e) c s z t = refuse-now c.op e c s z ∙ ap now_outcome (sym (refuse_both c.op e c s))

pub call_both : (c : Old.Call) (s : Old.State) → T (old_op (now_op c.op) c.combos)
    → call (now s) (now_call c) ≡ now_outcome (shown c.op c (Old.call s c))
unfolding call Old.call
call_both c s t = rw (refusal-now c.op c s t) (answering_both (Old.refusal c.op c s) c s (was_silent c.op c s) t)

-- ---- lines

below_a : (i : ℕ) → eqb (desk_of i) DESK_A ≡ ltb i HALF
unfolding desk_of
below_a i = go (ltb i HALF)
  where
    go : (b : Bool) → eqb (if b then DESK_A else DESK_B) DESK_A ≡ b
    go true = refl
    go false = refl

above_b : (i : ℕ) → eqb (desk_of i) DESK_B ≡ not (ltb i HALF)
unfolding desk_of
above_b i = go (ltb i HALF)
  where
    go : (b : Bool) → eqb (if b then DESK_A else DESK_B) DESK_B ≡ not b
    go true = refl
    go false = refl

halves_both : (rs : List Old.Reply) → halves (map now_reply rs) ≡ map now_reply (in_halves rs)
unfolding halves replies_to in_halves
halves_both rs =
    rw (
      keep_map (λ (r : Reply). eqb (desk_of r.id) DESK_A) now_reply rs,
      keep_map (λ (r : Reply). eqb (desk_of r.id) DESK_B) now_reply rs,
      keep_as (λ (r : Old.Reply). eqb (desk_of r.id) DESK_A) (λ (r : Old.Reply). ltb r.id HALF) (λ r. below_a r.id) rs,
      keep_as (λ (r : Old.Reply). eqb (desk_of r.id) DESK_B) (λ (r : Old.Reply). not (ltb r.id HALF)) (λ r. above_b r.id) rs,
    )
    (sym (map-append now_reply (keep (λ r. ltb r.id HALF) rs) (keep (λ r. not (ltb r.id HALF)) rs)))
  where
    keep_as : (p q : Old.Reply → Bool) → ((r : Old.Reply) → p r ≡ q r) → (xs : List Old.Reply) → keep p xs ≡ keep q xs
    keep_as p q e xs = ap (λ (t : Old.Reply → Bool). keep t xs) (λ i r. e r i)

told_both : (c : Old.Call) (o : Old.Outcome) → told (now_outcome (shown c.op c o)) ≡ both_told (some c) o
unfolding told answer_line line hex_digit both_told Old.answer_line Old.line Old.hex_digit
told_both c o = rw (halves_both o.replies, reply_lines-now (in_halves o.replies))

outcome_both : (f : Option Old.Call) (s : Old.State) → T (old_call (now_frame f))
    → (told (outcome_of (now s) (now_frame f)) ≡ both_told f (Old.outcome_of s f))
    × ((outcome_of (now s) (now_frame f)).next ≡ now (Old.outcome_of s f).next)
unfolding outcome_of old_call Old.outcome_of
outcome_both none s t =
    (unfold both_told told silent done halves replies_to keep reply_lines answer_line line hex_digit Old.silent Old.done Old.told Old.reply_lines Old.answer_line Old.line Old.hex_digit in refl, unfold silent Old.silent in refl)
outcome_both (some c) s t =
    let e = call_both c s t in (ap told e ∙ told_both c (Old.call s c), ap (λ (o : Outcome). o.next) e)

run_both : (s : Old.State) (ls : List (List ℕ)) → T (all old_line ls) → run (now s) ls ≡ now_fed (both_run s ls)
unfolding run feed all old_line both_run unhex digit joined Old.unhex Old.digit Old.joined
run_both s [] t = refl
run_both s (l ∷ ls) t =
    let f = Old.frame (Old.unhex l) in
    let u = and_left (old_line l) (all old_line ls) t in
    let e = frame-now (unhex l) u in
    let q = outcome_both f s (rw e at u) in
    let r = run_both (Old.outcome_of s f).next ls (and_right (old_line l) (all old_line ls) t) in
    rw (e, q.0, q.1, r)

-- every old log, on a board of any number of channels
pub old_run_both : (n : ℕ) (bs : List ℕ) → OldLog bs → run (fresh_on n) (lines bs) ≡ now_fed (both_run (Old.fresh_on n) (Old.lines bs))
unfolding lines opened Old.lines Old.opened
old_run_both n bs t = rw (fresh-now n) (run_both (Old.fresh_on n) (lines bs) t)

pub old_log_both : (n : ℕ) (bs : List ℕ) → OldLog bs → (run (fresh_on n) (lines bs)).output ≡ (both_run (Old.fresh_on n) (Old.lines bs)).output
old_log_both n bs t = ap (λ (f : Fed). f.output) (old_run_both n bs t)
