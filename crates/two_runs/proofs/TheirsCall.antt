-- Any call of the others is nothing to the K party, whether it is refused or accepted, and with the settling that follows: it
-- replies to none of its ids, leaves its part of the state, and leaves a state that settling may follow again.
-- Assumes nothing.
use Prim.Native.Nat.{◌+◌, ◌<◌, ◌≤◌, ℕ}
use mathlib.Core.Path.{◌∙◌, ◌≡◌, ap₂, refl}
use mathlib.Core.List.{List, [], ◌∷◌}
use mathlib.Core.Bool.{Bool, ◌&&◌, ◌||◌, false, not, true}
use native.Mathlib.Omega.{arith}
use lib.Dec.{T, eqb, leb, leb→le, nleb→lt}
use lib.ListN.{length}
use Rattle.machine_laws.specs.machine.Numbers.{ALLOCFAILED}
use Rattle.machine_laws.specs.machine.Lists.{all, keep}
use Rattle.machine_laws.specs.machine.State.{Channel, ABORT, CLOSE, COMMAND, Call, EVENT, Event, OPEN, Op, Outcome, State}
use Rattle.machine_laws.specs.machine.Maps.{at, change, half, lowest, odd}
use Rattle.machine_laws.specs.machine.Choosing.{look}
use Rattle.machine_laws.specs.machine.Desks.{foreign}
use Rattle.machine_laws.specs.machine.Commands.{do_abort, do_close, do_event, do_read, done, each, each_change, matches, matching, flushed, reset, same, set_prec, set_stop, silent}
use Rattle.machine_laws.specs.machine.Allocating.{do_allocate, do_open, opening}
use Rattle.machine_laws.specs.machine.Call.{accept, answering, call, open_settling, perform, settling}
use Rattle.machine_laws.specs.machine.Kinds.{ALLOCATE, CLEAR, FLUSH, FREE, Kind, LOCK, READ, RESET, SETPREC, START, STOP, FINISH, PERVOL, WAITCYCLE, UNKNOWN, UPDATE, WRITE, kind}
use Rattle.machine_laws.specs.machine.Refusals.{Refusal, accepted, bad_map, refusal, refuse, refused}
use Rattle.machine_laws.specs.machine.Settling.{settle}
use Rattle.machine_laws.proofs.machine.Tests.{and_left, and_right, if_elim}
use Rattle.machine_laws.proofs.Refusals.{first_past}
use Rattle.machine_laws.proofs.Choosing.{look_spares}
use Rattle.machine_laws.proofs.machine.Steps.{first_none}
use Rattle.machine_laws.proofs.Sound.{parts, in_use_few}
use Rattle.two_runs.specs.TwoRuns.{Party, avoids, holds, modest, on_k, own_replies, peeks}
use Rattle.two_runs.proofs.Part.{Ready, Theirs, modest-kind, modestly}
use Rattle.two_runs.proofs.Away.{own_append}
use Rattle.two_runs.proofs.Settle.{Loop, ready_loop, settle-calm}
use Rattle.two_runs.proofs.TheirsEach.{Mild, each_change-mild, finished-mild}
use Rattle.two_runs.proofs.TheirsFree.{close_mild, free_mild}
use Rattle.two_runs.proofs.TheirsQueue.{lock-mild, read_mild, waitcycle_mild, write_mild}
use Rattle.two_runs.proofs.TheirsEvent.{event_mild}
use Rattle.two_runs.proofs.TheirsFinish.{finish-mild, pervol-mild}
use Rattle.two_runs.proofs.TheirsAllocate.{allocate_mild, open_mild}
use Rattle.two_runs.proofs.TheirsAbort.{abort_mild}

-- ---- commands, by kind

change_same : (m : ℕ) (cs : List Channel) → change same m cs ≡ cs
unfolding change
change_same m [] = refl
change_same m (c ∷ cs) = ap₂ ◌∷◌ (if_elim (λ (d : Channel). d ≡ c) (odd m) (λ _. refl) (λ _. refl)) (change_same (half m) cs)

module _ (p : Party) (c : Call) (s : State) (u : T (not (p.mine c.id))) (lp : Loop p s) where
  peek_read : Mild p s (do_read c s)
  unfolding do_read
  peek_read = if_elim (Mild p s) (matches c.key (at (lowest (length s.channels) c.map) s.channels)) (λ _. finished-mild p c s u lp 2 _) (λ _. finished-mild p c s u lp 2 _)

  peek_same : (n : ℕ) → Mild p s (each_change n same false c s)
  unfolding each_change each
  peek_same n = rw (change_same (matching c.key c.map s.channels) s.channels) (finished-mild p c s u lp n _)

  perform-mild : (k : Kind) → T (peeks k || not (eqb c.key p.key)) → length s.channels + length s.waiting + length s.opens ≤ 104 → T (modestly p k c) → Mild p s (perform k c s)
  unfolding perform modestly all silent peeks
  perform-mild RESET t few m = each_change-mild p reset (λ d. refl) (λ d _. tt) 1 true c s t u lp
  perform-mild READ t few m = peek_read
  perform-mild WRITE t few m = write_mild p c s t u lp
  perform-mild UPDATE t few m = peek_same 4
  perform-mild CLEAR t few m = peek_same 5
  perform-mild STOP t few m = each_change-mild p (set_stop true) (λ d. refl) (λ d w. w) 6 false c s t u lp
  perform-mild START t few m = each_change-mild p (set_stop false) (λ d. refl) (λ d w. w) 7 false c s t u lp
  perform-mild FLUSH t few m = each_change-mild p flushed (λ d. refl) (λ d _. tt) 8 true c s t u lp
  perform-mild FREE t few m = free_mild p c s t u lp
  perform-mild SETPREC t few m = each_change-mild p (set_prec c.prec) (λ d. refl) (λ d w. w) 10 false c s t u lp
  perform-mild FINISH t few m = finish-mild p c s t u lp
  perform-mild PERVOL t few m = pervol-mild p c s t u lp
  perform-mild LOCK t few m = lock-mild p c s t u lp
  perform-mild WAITCYCLE t few m = waitcycle_mild p c s t u lp
  perform-mild ALLOCATE t few m =
      unfold do_allocate in
      allocate_mild p c s t u lp (look c.prec c.combos s.channels) few m (look_spares p.floor c.prec c.combos s.channels (leb→le c.prec p.floor m))
  perform-mild UNKNOWN t few m = record { quiet = unfold own_replies keep in refl; still = refl; loop = lp }

-- ---- every operation

-- an event that is not refused and not on a channel of K's
event_off : (p : Party) (s : State) (v : Event) (c : Call) → T (avoids p (EVENT v) c s) → refusal (EVENT v) c s ≡ accepted
    → T (not (holds p (at (lowest (length s.channels) c.map) s.channels)))
unfolding avoids on_k refusal
event_off p s v c t e = go (bad_map c s) (holds p (at (lowest (length s.channels) c.map) s.channels)) t (first_none _ e).1.1.0
  where
    go : (b d : Bool) → T (not (not b && d)) → T (not b) → T (not d)
    go true d u v = absurd v
    go false d u v = u

-- what is not of the other half
own_half : (a b : Bool) → T (a || b) → T (not a) → T b
own_half true b t u = absurd u
own_half false b t u = t

-- settling after what was mild
settling-mild : (p : Party) (s : State) (o : Outcome) → Mild p s o → Mild p s (settling o)
unfolding settling
settling-mild p s o m =
    let t = settle-calm p o.next m.loop in
    record { quiet = own_append p o.replies (settle o.next).replies m.quiet t.quiet; still = t.still ∙ m.still; loop = t.loop }

accept-mild : (p : Party) (s : State) (o : Op) (c : Call) → Ready p s → Theirs p s o c → refusal o c s ≡ accepted → Mild p s (accept o c s)
unfolding accept refusal avoids modest open_settling do_open
accept-mild p s OPEN c r t e =
    let l = look c.prec c.combos s.channels in
    let m = open_mild p c s l (ready_loop p s r) (in_use_few s (parts s r.sane)) t.apart (look_spares p.floor c.prec c.combos s.channels (leb→le c.prec p.floor t.low)) in
    if_elim (Mild p s) (eqb (opening l c s).answer.error ALLOCFAILED) (λ _. m) (λ _. settling-mild p s (opening l c s) m)
accept-mild p s CLOSE c r t e = settling-mild p s (do_close c s) (close_mild p c s (ready_loop p s r) t.apart)
accept-mild p s ABORT c r t e = settling-mild p s (do_abort c s) (abort_mild p c s (own_half (foreign c) (not (p.mine c.id)) t.apart (first_none _ e).1.1.1.0) (ready_loop p s r))
accept-mild p s (EVENT v) c r t e = settling-mild p s (do_event v c s) (event_mild p v c s (ready_loop p s r) (event_off p s v c t.apart e))
accept-mild p s (COMMAND k) c r t e =
    let a = peeks (kind k) || not (eqb c.key p.key) in
    let b = not (p.mine c.id) in
    let u = own_half (foreign c) (a && b) t.apart (first_none _ e).1.1.1.0 in
    settling-mild p s (perform (kind k) c s)
    (perform-mild p c s (and_right a b u) (ready_loop p s r) (kind k) (and_left a b u) (in_use_few s (parts s r.sane)) (modest-kind p k c t.low))

-- ---- refusals

-- refused with a number that is told, the call names an id of its own half
told_own : (k : ℕ) (c : Call) (s : State) (e : ℕ) → T (not (leb e 8)) → refusal (COMMAND k) c s ≡ refused e → T (not (foreign c))
unfolding refusal
told_own k c s e l r =
    let b : 8 < e = nleb→lt e 8 l in
    let f = first_past _ _ e r (λ x. omega arith) in
    let g = first_past _ _ e f.1 (λ x. omega arith) in
    let h = first_past _ _ e g.1 (λ x. omega arith) in
    (first_past _ _ e h.1 (λ x. omega arith)).0

refuse-mild : (p : Party) (e : ℕ) (s : State) (o : Op) (c : Call) → Loop p s → Theirs p s o c → refusal o c s ≡ refused e → Mild p s (refuse o e c s)
unfolding refuse silent own_replies keep avoids
refuse-mild p e s OPEN c lp t q = record { quiet = refl; still = refl; loop = lp }
refuse-mild p e s CLOSE c lp t q = record { quiet = refl; still = refl; loop = lp }
refuse-mild p e s ABORT c lp t q = record { quiet = refl; still = refl; loop = lp }
refuse-mild p e s (EVENT v) c lp t q = record { quiet = refl; still = refl; loop = lp }
refuse-mild p e s (COMMAND k) c lp t q =
    let a = peeks (kind k) || not (eqb c.key p.key) in
    let b = not (p.mine c.id) in
    if_elim (Mild p s) (leb e 8) (λ _. record { quiet = refl; still = refl; loop = lp })
    (λ l. finished-mild p c s (and_right a b (own_half (foreign c) (a && b) t.apart (told_own k c s e l q))) lp k (done e 0 c.key 255))

-- ---- the call

pub theirs_mild : (p : Party) (s : State) (c : Call) → Ready p s → Theirs p s c.op c → Mild p s (call s c)
unfolding call answering
theirs_mild p s c r t = go (refusal c.op c s) refl
  where
    go : (f : Refusal) → refusal c.op c s ≡ f → Mild p s (answering f c s)
    go accepted e = accept-mild p s c.op c r t e
    go (refused x) e = refuse-mild p x s c.op c (ready_loop p s r) t e
