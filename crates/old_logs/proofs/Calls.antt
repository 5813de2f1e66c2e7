-- An old call of one half gives the outcome that it gave, where all that is outstanding is of that half. Assumes nothing else.
use mathlib.Core.Path.{◌≡◌, refl, ap, ◌∙◌}
use mathlib.Core.Bool.{Bool, true, false, not}
use mathlib.Core.List.{[], map-append}
use Prim.Native.Nat.{ℕ}
use lib.Dec.{T, eqb, eqb→eq, ltb}
use Rattle.machine.specs.Numbers.{ALLOCFAILED, CMD_RESET, CMD_UPDATE, CMD_CLEAR, CMD_STOP, CMD_START, CMD_FLUSH, ADCMD_SETPREC}
use Rattle.machine.specs.Commands.{done, silent, reset, same, set_stop, flushed, set_prec}
use Rattle.machine.specs.State.{State, Call, COMMAND}
use Rattle.machine.specs.Desks.{desk_of}
use Rattle.machine.specs.Sound.{ids}
use Rattle.machine.specs.Kinds.{carries}
use Rattle.machine.specs.Refusals.{accepted, refusal}
use Rattle.machine.specs.Call.{perform, settling, open_settling, accept, answering, call}
use Rattle.machine.proofs.Steps.{first_none}
use Rattle.old_logs.specs.Old
use Rattle.old_logs.specs.Now.{now, now_op, now_call, now_reply, now_outcome}
use Rattle.old_logs.specs.OldLogs.{old_op, in_half, half_op}
use Rattle.old_logs.proofs.Lists.{if_as}
use Rattle.old_logs.proofs.Halves.{Mine, low-mine}
use Rattle.old_logs.proofs.Commands.{each_change-now, do_free-now, do_lock-now, do_read-now, do_write-now, do_event-now, do_close-now, do_abort-now}
use Rattle.old_logs.proofs.Allocating.{do_allocate-now, do_open-now}
use Rattle.old_logs.proofs.Settling.{settle-now}
use Rattle.old_logs.proofs.Refusals.{now_kind, now_refusal, old_command_lem, kind-now, carries_none, refusal-now, Silent, was_silent, refuse-now}

-- the one command whose answer #109 has changed
abbrev pub is_read : Old.Kind → Bool
is_read Old.RESET = false
is_read Old.READ = true
is_read Old.WRITE = false
is_read Old.UPDATE = false
is_read Old.CLEAR = false
is_read Old.STOP = false
is_read Old.START = false
is_read Old.FLUSH = false
is_read Old.FREE = false
is_read Old.SETPREC = false
is_read Old.LOCK = false
is_read Old.ALLOCATE = false
is_read Old.UNKNOWN = false

pub perform-now : (k : Old.Kind) (c : Old.Call) (s : Old.State) → (T (is_read k) → Mine (now_call c).desk (ids (now s))) → (T (carries (now_kind k)) → c.combos ≡ []) → perform (now_kind k) (now_call c) (now s) ≡ now_outcome (Old.perform k c s)
unfolding perform silent done carries Old.perform Old.silent Old.done
perform-now Old.RESET c s m e = each_change-now CMD_RESET reset Old.reset (λ _. refl) true c s
perform-now Old.READ c s m e = do_read-now c s (m tt)
perform-now Old.WRITE c s m e = do_write-now c (e tt) s
perform-now Old.UPDATE c s m e = each_change-now CMD_UPDATE same Old.same (λ _. refl) false c s
perform-now Old.CLEAR c s m e = each_change-now CMD_CLEAR same Old.same (λ _. refl) false c s
perform-now Old.STOP c s m e = each_change-now CMD_STOP (set_stop true) (Old.set_stop true) (λ _. refl) false c s
perform-now Old.START c s m e = each_change-now CMD_START (set_stop false) (Old.set_stop false) (λ _. refl) false c s
perform-now Old.FLUSH c s m e = each_change-now CMD_FLUSH flushed Old.flushed (λ _. refl) true c s
perform-now Old.FREE c s m e = do_free-now c s
perform-now Old.SETPREC c s m e = each_change-now ADCMD_SETPREC (set_prec c.prec) (Old.set_prec c.prec) (λ _. refl) false c s
perform-now Old.LOCK c s m e = do_lock-now c s
perform-now Old.ALLOCATE c s m e = do_allocate-now c s
perform-now Old.UNKNOWN c s m e = refl

pub settling-now : (o : Old.Outcome) → settling (now_outcome o) ≡ now_outcome (Old.settling o)
unfolding settling Old.settling
settling-now o = rw (settle-now o.next, map-append now_reply o.replies)

pub open_settling-now : (o : Old.Outcome) → open_settling (now_outcome o) ≡ now_outcome (Old.open_settling o)
unfolding open_settling Old.open_settling
open_settling-now o = if_as now_outcome (eqb o.answer.error ALLOCFAILED) (λ _. refl) (λ _. settling-now o)

low-id : (n : ℕ) (c : Call) (s : State) → refusal (COMMAND n) c s ≡ accepted → T (not (ltb 63 c.id))
unfolding refusal
low-id n c s e = (first_none _ e).1.1.0

-- a command that is accepted has an id of its half
accepted-mine : (d n : ℕ) (c : Old.Call) (s : Old.State) → T (half_op d (COMMAND n) c.id) → Old.refusal (Old.COMMAND n) c s ≡ Old.accepted → T (old_op (COMMAND n) c.combos) → desk_of c.id ≡ d
unfolding half_op in_half
accepted-mine d n c s h e t =
    eqb→eq (desk_of c.id) d (low-mine d c.id h (low-id n (now_call c) (now s) (refusal-now (Old.COMMAND n) c s t ∙ ap now_refusal e)))

accept-now : (d : ℕ) (op : Old.Op) (c : Old.Call) (s : Old.State) → Mine d (ids (now s)) → T (half_op d (now_op op) c.id) → Old.refusal op c s ≡ Old.accepted → T (old_op (now_op op) c.combos) → accept (now_op op) (now_call c) (now s) ≡ now_outcome (Old.accept op c s)
unfolding accept Old.accept
accept-now d Old.OPEN c s m h q t = rw (do_open-now c s) (open_settling-now (Old.do_open c s))
accept-now d Old.CLOSE c s m h q t = rw (do_close-now c s) (settling-now (Old.do_close c s))
accept-now d Old.ABORT c s m h q t = rw (do_abort-now c s) (settling-now (Old.do_abort c s))
accept-now d Old.EVENT c s m h q t = ap settling (do_event-now c s) ∙ settling-now (Old.do_event c s)
accept-now d (Old.COMMAND n) c s m h q t =
    let o = old_command_lem n c.combos (unfold old_op in t) in
    let e = kind-now n c.combos o in
    let p = perform-now (Old.kind n) c s (λ _. rw (accepted-mine d n c s h q t) m) (λ u. carries_none n c.combos o (rw e u)) in
    rw (e, p) (settling-now (Old.perform (Old.kind n) c s))

answering-now : (d : ℕ) (r : Old.Refusal) (c : Old.Call) (s : Old.State) → Old.refusal c.op c s ≡ r → Silent r → Mine d (ids (now s)) → T (half_op d (now_op c.op) c.id) → T (old_op (now_op c.op) c.combos)
    → answering (now_refusal r) (now_call c) (now s) ≡ now_outcome (Old.answering r c s)
unfolding answering Old.answering
answering-now d Old.accepted c s q z m h t = accept-now d c.op c s m h q t
answering-now d (Old.refused e) c s q z m h t = refuse-now c.op e c s z

pub call-now : (d : ℕ) (c : Old.Call) (s : Old.State) → Mine d (ids (now s)) → T (half_op d (now_op c.op) c.id) → T (old_op (now_op c.op) c.combos)
    → call (now s) (now_call c) ≡ now_outcome (Old.call s c)
unfolding call Old.call
call-now d c s m h t = rw (refusal-now c.op c s t) (answering-now d (Old.refusal c.op c s) c s refl (was_silent c.op c s) m h t)
