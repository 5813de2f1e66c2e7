-- Why nobody waits for the cycle of a write that is gone: whatever ends a front write takes the WAITCYCLEs of its channel out and
-- replies to each, and a WAITCYCLE leaves in no other way. Document 02, #101.
-- Assumes nothing.
--
--   Stands cs w      the WAITCYCLE names one channel, which has its key and a write
--   cut_by o c s      the channels whose front write a call ends otherwise than by the event, before it settles
--   Spares c k       the command ends no front write
use Prim.Native.Nat.{ℕ, zero, suc, ◌+◌, ◌≤◌, ◌<◌}
use mathlib.Core.Path.{◌≡◌, refl, subst, sym}
use mathlib.Core.Bool.{Bool, true, false, not, ◌&&◌}
use mathlib.Core.List.{List, [], ◌∷◌, ◌++◌, map}
use native.Mathlib.Omega.{arith}
use lib.Dec.{T, T_not, not_T, eqb, eqb→eq}
use lib.ListN.{length, length-map}
use Rattle.machine.specs.Numbers.{quick, nowait, synced, ALLOCFAILED}
use Rattle.std.specs.Prelude.{if◌then◌else◌}
use Rattle.machine.specs.Lists.{all, keep, among}
use Rattle.machine.specs.State.{Write, Channel, Lock, State, with_channels, Reply, Answer, Outcome, Call, Op, OPEN, CLOSE, ABORT, Event, CYCLE_ENDED, GAVE_UP, EVENT, COMMAND}
use Rattle.machine.specs.Maps.{odd, half, bit, lowest, named, change, at}
use Rattle.machine.specs.Choosing.{Look, fails, held, grants, look}
use Rattle.machine.specs.Granting.{key_for, aborted_in, on_channels, given_up, cut, cut_replies, dropped, granted}
use Rattle.machine.specs.Commands.{matches, matching, mismatch, finished, silent, each, each_change, freeing, freeing_replies, cleared, ended, is_empty, front, playing, in_progress, front_only, front_gone, cut_fronts, front_replies, last_replies, event_replies, happened, on_front, remember_finish, met, owned, without, led_by, aborted_by, aborted_writes, aborted_waits, leaving, do_free, do_finish, do_pervol, do_lock, do_read, do_write, do_waitcycle, do_event, do_close, do_abort}
use Rattle.machine.specs.Allocating.{waits, allocating, do_allocate, opening, do_open}
use Rattle.machine.specs.Settling.{Found, nobody, somebody, Walk, Settled, replied, walk, walked, go_on, rounds, settle}
use Rattle.machine.specs.Sound.{sound, sound_waiter, writes_of, ids}
use Rattle.machine.specs.Kinds.{Kind, RESET, READ, WRITE, UPDATE, CLEAR, STOP, START, FLUSH, FREE, SETPREC, FINISH, PERVOL, LOCK, WAITCYCLE, ALLOCATE, UNKNOWN, kind}
use Rattle.machine.specs.Refusals.{Refusal, accepted, refused, refusal}
use Rattle.machine.specs.Call.{in_range, perform, settling, open_settling, accept, answering, call}
use Rattle.machine.specs.Rule.{channel, Names}
use Rattle.machine.proofs.Tests.{if_elim, by_test, and_left, and_right, test_true, test_false}
use Rattle.machine_laws.specs.Lists.{Sub, count}
use Rattle.machine_laws.specs.Cutting.{Stands, AllStand, Spares, look_cut, kind_cut, cut_by, Cuts, read, write, update, clear, stop, start, setprec, pervol, lock, finish}
use Rattle.machine_laws.proofs.Lists.{sub_refl, sub_nil, sub_left, sub_right, sub_trans, sub_keep, sub_kept, sub_map, sub_all, all_any, keep_all, keep_none}
use Rattle.machine_laws.proofs.Counting.{count_cons, count-append, count_keep, count_sub, count-among, distinct-count}
use Rattle.machine_laws.proofs.Maps.{named_says, meets_zero, names_bit_tail, lowest_names}
use Rattle.machine_laws.proofs.Sound.{parts}
use Rattle.machine_laws.proofs.Refusals.{refuse_same}
use Rattle.machine_laws.specs.Keeping.{lock_ids, wait_ids, Counted}
use Rattle.machine_laws.proofs.Keeping.{served}
use Rattle.machine_laws.proofs.KeepingCalls.{call-sound}
use Rattle.machine_laws.specs.Replies.{heard}
use Rattle.machine_laws.proofs.Replies.{heard-append, heard_of, heard_cut, cut_count, replies-apart}

-- ---- whom a sound state lets wait

-- a lowest bit names a channel, and no second
lowest_place : (n m : ℕ) → T (not (eqb (lowest n m) 0)) → (i : ℕ) × (i < n) × Names (lowest n m) i
unfolding lowest
lowest_place zero m t = absurd t
lowest_place (suc n) m t = go (odd m) t (lowest_place n (half m))
  where
    x : ℕ
    x = lowest n (half m)

    go : (b : Bool) → T (not (eqb (if b then 1 else bit false x) 0)) → (T (not (eqb x 0)) → (i : ℕ) × (i < n) × Names x i)
        → (i : ℕ) × (i < suc n) × Names (if b then 1 else bit false x) i
    go true u ih = (0, omega arith, refl)
    go false u ih =
        let y = ih (not_T (eqb x 0) (λ z. T_not (eqb (bit false x) 0) u (rw (eqb→eq x 0 z) (unfold bit in tt)))) in
        (suc y.0, omega (arith, y.1), (names_bit_tail false x y.0).1 y.2)

lowest-alone : (n m i j : ℕ) → i < n → j < n → Names (lowest n m) i → Names (lowest n m) j → i ≡ j
lowest-alone n m i j h k x y =
    let a = (lowest_names n m i h).0 x in
    let b = (lowest_names n m j k).0 y in
    let l : i < j → ⊥ = λ z. b.1 i z a.0 in
    let g : j < i → ⊥ = λ z. a.1 j z b.0 in
    omega arith

waiter-stands : (cs : List Channel) (w : Lock) → T (sound_waiter cs w) → Stands cs w
unfolding sound_waiter
waiter-stands cs w t =
    record {
      place = y.0;
      inside = y.1;
      named = y.2;
      alone = λ i h n. lowest-alone (length cs) w.map i y.0 h y.1 (back i n) (back y.0 y.2);
      key = eqb→eq (channel cs y.0).key w.key (and_left (eqb (channel cs y.0).key w.key) _ said);
      write = some (channel cs y.0).writes (and_right (eqb (channel cs y.0).key w.key) _ said);
    }
  where
    a : Bool
    a = not (eqb w.map 0)

    b : Bool
    b = eqb (lowest (length cs) w.map) w.map

    head : T (a && b)
    head = and_left (a && b) (named (served w) w.map cs) t

    e : lowest (length cs) w.map ≡ w.map
    e = eqb→eq (lowest (length cs) w.map) w.map (and_right a b head)

    back : (i : ℕ) → Names w.map i → Names (lowest (length cs) w.map) i
    back i = subst (λ (x : ℕ). Names x i) (sym e)

    y : (i : ℕ) × (i < length cs) × Names w.map i
    y = rw e at (lowest_place (length cs) w.map (rw e (and_left a b head)))

    said : T (served w (channel cs y.0))
    said = named_says (served w) w.map cs (and_right (a && b) (named (served w) w.map cs) t) y.0 y.1 y.2

    some : (ws : List Write) → T (not (eqb (length ws) 0)) → 0 < length ws
    some [] u = absurd u
    some (v ∷ vs) u = omega arith

pub waiters_stand : (cs : List Channel) (ws : List Lock) → T (all (sound_waiter cs) ws) → AllStand cs ws
unfolding all
waiters_stand cs [] t = tt
waiters_stand cs (w ∷ ws) t =
    (waiter-stands cs w (and_left (sound_waiter cs w) (all (sound_waiter cs) ws) t), waiters_stand cs ws (and_right (sound_waiter cs w) (all (sound_waiter cs) ws) t))

-- after any call of a sound state every WAITCYCLE left stands on a channel with a write
pub waiters_stand_after : (s : State) (c : Call) → T (in_range c) → Counted c.op c → T (sound s)
    → AllStand (call s c).next.channels (call s c).next.waiters
waiters_stand_after s c r y t =
    let u = (call s c).next in waiters_stand u.channels u.waiters (parts u (call-sound s c r y t)).waiters_ok

-- ---- the commands that end no front write

each_spares : (k : ℕ) (f : Channel → Channel) (c : Call) (s : State) → (each_change k f false c s).next.waiters ≡ s.waiters
unfolding each_change each finished
each_spares k f c s = refl

-- they leave those who wait for a cycle as they are
pub spares-waiters : {k : Kind} {c : Call} (s : State) → Spares c k → (perform k c s).next.waiters ≡ s.waiters
unfolding perform do_read do_write do_lock do_finish do_pervol finished silent
spares-waiters {c = c} s read =
    if_elim (λ (o : Outcome). o.next.waiters ≡ s.waiters) (matches c.key (at (lowest (length s.channels) c.map) s.channels)) (λ _. refl) (λ _. refl)
spares-waiters {c = c} s write =
    if_elim (λ (o : Outcome). o.next.waiters ≡ s.waiters) (matches c.key (at (lowest (length s.channels) c.map) s.channels)) (λ _. refl) (λ _. refl)
spares-waiters {c = c} s update = each_spares _ _ c s
spares-waiters {c = c} s clear = each_spares _ _ c s
spares-waiters {c = c} s stop = each_spares _ _ c s
spares-waiters {c = c} s start = each_spares _ _ c s
spares-waiters {c = c} s setprec = each_spares _ _ c s
spares-waiters {c = c} s pervol = each_spares _ _ c s
spares-waiters {c = c} s lock =
    if_elim (λ (o : Outcome). o.next.waiters ≡ s.waiters) (mismatch c.key c.map s.channels) (λ _. refl)
    (λ _. if_elim (λ (o : Outcome). o.next.waiters ≡ s.waiters) (eqb c.map 0) (λ _. refl) (λ _. refl))
spares-waiters {c = c} s (finish t) = rw (test_true (synced c.flags) t) (each_spares _ _ c s)

-- ---- what a call cuts

-- and before settling no other goes
record CutsAlone (m : ℕ) (s : State) (o : Outcome) : Type 0 where
  cuts : Cuts m s o
  kept : Sub (cut m s).waiters o.next.waiters

-- map 0 cuts nothing
cuts_none : (s : State) (o : Outcome) → Cuts 0 s o
unfolding cut_replies on_channels
cuts_none s o =
    record {
      told = rw (keep_none (on_channels (length s.channels) 0) s.waiters (none s.waiters)) (sub_nil o.replies);
      left = none o.next.waiters;
    }
  where
    none : (ws : List Lock) → T (all (λ w. not (on_channels (length s.channels) 0 w)) ws)
    none = all_any (λ w. not (on_channels (length s.channels) 0 w)) (λ w. rw (meets_zero (length s.channels) w.map) tt)

nothing_cut : (s : State) (o : Outcome) → Sub s.waiters o.next.waiters → CutsAlone 0 s o
unfolding cut
nothing_cut s o h =
    record {
      cuts = cuts_none s o;
      kept = sub_trans (sub_keep (λ w. not (on_channels (length s.channels) 0 w)) s.waiters) h;
    }

dropped-told : (m : ℕ) (s : State) → Sub (cut_replies m s) (dropped m s)
unfolding dropped
dropped-told m s = sub_right (aborted_in m s.channels) (sub_refl (cut_replies m s))

freeing-told : (m : ℕ) (s : State) → Sub (cut_replies m s) (freeing_replies m s)
unfolding freeing_replies
freeing-told m s =
    sub_left (map (ended 0) (keep is_empty (cleared (length s.channels) m s.locks))) (dropped-told m s)

-- a state whose WAITCYCLEs are those that the cut leaves
cuts-alone : (m : ℕ) (s : State) (o : Outcome) → Sub (cut_replies m s) o.replies → o.next.waiters ≡ (cut m s).waiters → CutsAlone m s o
unfolding cut
cuts-alone m s o h e =
    record {
      cuts = record { told = h; left = rw e (keep_all (λ w. not (on_channels (length s.channels) m w)) s.waiters) };
      kept = rw e (sub_refl (cut m s).waiters);
    }

spared : (k : Kind) (c : Call) (s : State) → Spares c k → CutsAlone 0 s (perform k c s)
spared k c s h = nothing_cut s (perform k c s) (rw (spares-waiters s h) (sub_refl s.waiters))

-- a command finished at once: its own reply stands behind the others
finished-cuts : (k m : ℕ) (c : Call) (a : Answer) (rs : List Reply) (s t : State) → Sub (cut_replies m s) rs
    → t.waiters ≡ (cut m s).waiters → CutsAlone m s (finished k c a rs t)
unfolding finished
finished-cuts k m c a rs s t h e = cuts-alone m s (finished k c a rs t) (sub_left (if quick c.flags then [] else _) h) e

drops_cuts : (k : ℕ) (f : Channel → Channel) (c : Call) (s : State)
    → CutsAlone (matching c.key c.map s.channels) s (each_change k f true c s)
unfolding each_change each
drops_cuts k f c s =
    let m = matching c.key c.map s.channels in finished-cuts k m c _ (dropped m s) s _ (dropped-told m s) refl

finish-cuts : (c : Call) (s : State) → CutsAlone (kind_cut FINISH c s) s (do_finish c s)
unfolding kind_cut do_finish each
finish-cuts c s =
    let m = in_progress (matching c.key c.map s.channels) s.channels in
    let writes = aborted_in m (map front_only s.channels) in
    by_test (synced c.flags)
    (λ t. rw (test_true (synced c.flags) t)
    (nothing_cut s (each_change 11 (on_front remember_finish) false c s) (rw (each_spares 11 (on_front remember_finish) c s) (sub_refl s.waiters))))
    (λ t. rw (test_false (synced c.flags) t)
    (finished-cuts 11 m c _ (writes ++ cut_replies m s) s (with_channels (change front_gone m s.channels) (cut m s))
    (sub_right writes (sub_refl (cut_replies m s))) refl))

allocating-cuts : (l : Look) (c : Call) (s : State) → CutsAlone (look_cut l) s (allocating l c s)
unfolding allocating waits granted finished silent
allocating-cuts fails c s =
    nothing_cut s (allocating fails c s)
    (if_elim (λ (o : Outcome). Sub s.waiters o.next.waiters) (nowait c.flags) (λ _. sub_refl s.waiters) (λ _. sub_refl s.waiters))
allocating-cuts (held m) c s = nothing_cut s (allocating (held m) c s) (sub_refl s.waiters)
allocating-cuts (grants m) c s = finished-cuts 32 m c _ (dropped m s) s (granted m c.key c.prec s) (dropped-told m s) refl

perform-cuts : (k : Kind) (c : Call) (s : State) → CutsAlone (kind_cut k c s) s (perform k c s)
perform-cuts RESET c s = unfold kind_cut perform in drops_cuts _ _ c s
perform-cuts READ c s = unfold kind_cut in spared READ c s read
perform-cuts WRITE c s = unfold kind_cut in spared WRITE c s write
perform-cuts UPDATE c s = unfold kind_cut in spared UPDATE c s update
perform-cuts CLEAR c s = unfold kind_cut in spared CLEAR c s clear
perform-cuts STOP c s = unfold kind_cut in spared STOP c s stop
perform-cuts START c s = unfold kind_cut in spared START c s start
perform-cuts FLUSH c s = unfold kind_cut perform in drops_cuts _ _ c s
perform-cuts FREE c s =
    unfold kind_cut perform do_free each freeing in
    (let m = matching c.key c.map s.channels in finished-cuts 9 m c _ (freeing_replies m s) s (freeing m s) (freeing-told m s) refl)
perform-cuts SETPREC c s = unfold kind_cut in spared SETPREC c s setprec
perform-cuts FINISH c s = unfold perform in finish-cuts c s
perform-cuts PERVOL c s = unfold kind_cut in spared PERVOL c s pervol
perform-cuts LOCK c s = unfold kind_cut in spared LOCK c s lock
perform-cuts WAITCYCLE c s =
    unfold kind_cut perform do_waitcycle finished silent in
    (let h = at (lowest (length s.channels) c.map) s.channels in
    nothing_cut s (do_waitcycle c s)
    (if_elim (λ (o : Outcome). Sub s.waiters o.next.waiters) (not (matches c.key h)) (λ _. sub_refl s.waiters)
    (λ _. if_elim (λ (o : Outcome). Sub s.waiters o.next.waiters) (playing h) (λ _. sub_left (_ ∷ []) (sub_refl s.waiters))
    (λ _. sub_refl s.waiters))))
perform-cuts ALLOCATE c s = unfold kind_cut perform do_allocate in allocating-cuts (look c.prec c.combos s.channels) c s
perform-cuts UNKNOWN c s = unfold kind_cut perform silent in nothing_cut s (perform UNKNOWN c s) (sub_refl s.waiters)

opening-cuts : (l : Look) (c : Call) (s : State) → CutsAlone (look_cut l) s (opening l c s)
unfolding opening granted silent
opening-cuts fails c s = nothing_cut s (opening fails c s) (sub_refl s.waiters)
opening-cuts (held m) c s = nothing_cut s (opening (held m) c s) (sub_refl s.waiters)
opening-cuts (grants m) c s = cuts-alone m s (opening (grants m) c s) (dropped-told m s) refl

close_cuts : (c : Call) (s : State) → CutsAlone (owned c.key s.channels) s (do_close c s)
unfolding do_close freeing silent
close_cuts c s = let m = owned c.key s.channels in cuts-alone m s (do_close c s) (freeing-told m s) refl

abort_cuts : (c : Call) (s : State) → Cuts (led_by c.id s.channels) s (do_abort c s)
unfolding do_abort leaving cut silent
abort_cuts c s =
    let m = led_by c.id s.channels in
    record {
      told = sub_right (aborted_by c.id s) (sub_refl (cut_replies m s));
      left =
          rw (length-map s.channels (without c.id))
          (keep_all (λ w. not (on_channels (length s.channels) m w)) (keep (λ w. not (eqb c.id w.id)) s.waiters));
    }

-- #102: "the front write ends with -2, and its waiters too"
gave_up_cuts : (c : Call) (s : State) → CutsAlone (cut_by (EVENT GAVE_UP) c s) s (do_event GAVE_UP c s)
unfolding cut_by do_event event_replies happened silent
gave_up_cuts c s =
    by_test (playing h)
    (λ t. rw (test_true (playing h) t) (cuts-alone m s _ (sub_right (aborted_in m (map front_only s.channels)) (sub_refl (cut_replies m s))) refl))
    (λ t. rw (test_false (playing h) t) (nothing_cut s _ (sub_refl s.waiters)))
  where
    m : ℕ
    m = lowest (length s.channels) c.map

    h : Channel
    h = at m s.channels

-- "The event answers waiters 0 with that bit, oldest first, before the write": the same with another reply
pub event_meets : (c : Call) (s : State) → T (playing (at (lowest (length s.channels) c.map) s.channels))
    → Sub (map met (keep (on_channels (length s.channels) (lowest (length s.channels) c.map)) s.waiters)) (do_event CYCLE_ENDED c s).replies
    × T (all (λ w. not (on_channels (length s.channels) (lowest (length s.channels) c.map) w)) (do_event CYCLE_ENDED c s).next.waiters)
unfolding do_event event_replies happened cut silent
event_meets c s t =
    let m = lowest (length s.channels) c.map in
    let on = on_channels (length s.channels) m in
    rw (test_true (playing (at m s.channels)) t)
    (sub_left (last_replies m (at m s.channels).key (at m s.channels).writes) (sub_refl (map met (keep on s.waiters))), keep_all (λ w. not (on w)) s.waiters)

-- the same of a grant, settling's too
pub grant-cuts : (m key prec : ℕ) (s : State) → Sub (cut_replies m s) (dropped m s) × ((granted m key prec s).waiters ≡ (cut m s).waiters)
unfolding granted
grant-cuts m key prec s = (dropped-told m s, refl)

-- ---- settling only takes WAITCYCLEs away

go_on-waiters : (f : Found) (w : Walk) (s : State) (again : State → Settled) → ((u : State) → Sub (again u).state.waiters u.waiters)
    → Sub (go_on f w s again).state.waiters s.waiters
unfolding go_on walked granted cut
go_on-waiters nobody w s again ih = sub_refl s.waiters
go_on-waiters (somebody r m) w s again ih =
    sub_trans (ih (granted m r.key r.prec (walked w s))) (sub_keep (λ v. not (on_channels (length s.channels) m v)) s.waiters)

rounds-waiters : (n : ℕ) (s : State) → Sub (rounds n s).state.waiters s.waiters
unfolding rounds
rounds-waiters zero s = sub_refl s.waiters
rounds-waiters (suc n) s =
    let w = walk s.channels s.waiting s.locks in go_on-waiters w.found w s (rounds n) (rounds-waiters n)

pub settle-waiters : (s : State) → Sub (settle s).state.waiters s.waiters
unfolding settle
settle-waiters s = rounds-waiters (suc (length s.waiting)) s

settling-cuts : (m : ℕ) (s : State) (o : Outcome) → Cuts m s o → Cuts m s (settling o)
unfolding settling
settling-cuts m s o h =
    record {
      told = sub_left (settle o.next).replies h.told;
      left = sub_all (λ w. not (on_channels (length s.channels) m w)) (settle-waiters o.next) h.left;
    }

accept-cuts : (o : Op) (c : Call) (s : State) → Cuts (cut_by o c s) s (accept o c s)
unfolding accept cut_by open_settling do_open
accept-cuts OPEN c s =
    let l = look c.prec c.combos s.channels in
    if_elim (Cuts (look_cut l) s) (eqb (opening l c s).answer.error ALLOCFAILED) (λ _. (opening-cuts l c s).cuts)
    (λ _. settling-cuts (look_cut l) s (opening l c s) (opening-cuts l c s).cuts)
accept-cuts CLOSE c s = settling-cuts (owned c.key s.channels) s (do_close c s) (close_cuts c s).cuts
accept-cuts ABORT c s = settling-cuts (led_by c.id s.channels) s (do_abort c s) (abort_cuts c s)
accept-cuts (EVENT CYCLE_ENDED) c s = cuts_none s (settling (do_event CYCLE_ENDED c s))
accept-cuts (EVENT GAVE_UP) c s = settling-cuts _ s (do_event GAVE_UP c s) (unfold cut_by in (gave_up_cuts c s).cuts)
accept-cuts (COMMAND n) c s = settling-cuts (kind_cut (kind n) c s) s (perform (kind n) c s) (perform-cuts (kind n) c s).cuts

-- "A front write that ends otherwise has its channel's waiters replied -2, map 0, oldest first": after the whole call none is left
-- of the channels cut, and the reply to each is among the replies
pub call-cuts : (s : State) (c : Call) → refusal c.op c s ≡ accepted → Cuts (cut_by c.op c s) s (call s c)
unfolding call answering
call-cuts s c e = rw e (accept-cuts c.op c s)

-- and to each of them once
pub cut_once : (s : State) (c : Call) → T (sound s) → refusal c.op c s ≡ accepted → (i : ℕ)
    → T (among i (lock_ids (keep (on_channels (length s.channels) (cut_by c.op c s)) s.waiters)))
    → count i (heard (call s c).replies) ≡ 1
cut_once s c t e i a =
    let n = distinct-count i _ (replies-apart s c t) in
    let k = count-append i (heard (call s c).replies) (ids (call s c).next) in
    let h = count_sub i (sub_map (λ (r : Reply). r.id) (call-cuts s c e).told) in
    let g = heard_cut i (cut_by c.op c s) s in
    let x = count-among i _ a in
    omega arith

-- ---- a WAITCYCLE leaves only with a reply

-- an id that waited for a cycle is replied to or waits still
abbrev Told : ℕ → State → List Reply → State → Type 0
Told i s rs t = count i (lock_ids s.waiters) ≤ count i (heard rs) + count i (lock_ids t.waiters)

abbrev ToldOut : ℕ → State → Outcome → Type 0
ToldOut i s o = Told i s o.replies o.next

-- those that are cut are replied to, and the others wait
alone-told : (i m : ℕ) (s : State) (o : Outcome) → CutsAlone m s o → ToldOut i s o
alone-told i m s o h =
    let a = cut_count i m s in
    let b = count_sub i (sub_map (λ (r : Reply). r.id) h.cuts.told) in
    let d = count_sub i (sub_map (λ (w : Lock). w.id) h.kept) in
    omega arith

event_told : (i : ℕ) (v : Event) (c : Call) (s : State) → ToldOut i s (do_event v c s)
event_told i GAVE_UP c s = alone-told i _ s (do_event GAVE_UP c s) (gave_up_cuts c s)
event_told i CYCLE_ENDED c s =
    unfold do_event event_replies happened silent cut in
    if_elim (ToldOut i s) (playing h)
    (λ _. let a = heard-append i (map met (keep on s.waiters)) (last_replies m h.key h.writes) in
    let b = heard_of i met (λ (w : Lock). w.id) (λ w. unfold met in refl) (keep on s.waiters) in
    let d = count_keep i (λ (w : Lock). w.id) on s.waiters in
    omega arith)
    (λ _. omega arith)
  where
    m : ℕ
    m = lowest (length s.channels) c.map

    h : Channel
    h = at m s.channels

    on : Lock → Bool
    on = on_channels (length s.channels) m

abort_told : (i : ℕ) (c : Call) (s : State) → ToldOut i s (do_abort c s)
unfolding do_abort aborted_by leaving cut cut_replies silent
abort_told i c s =
    let j = c.id in
    let before = aborted_writes j s.channels ++ aborted_waits j s.waiting in
    let mine : Lock → Bool = λ w. eqb j w.id in
    let rest = keep (λ w. not (mine w)) s.waiters in
    let on = on_channels (length s.channels) (led_by j s.channels) in
    let a = heard-append i (before ++ map given_up (keep mine s.waiters)) (map given_up (keep on s.waiters)) in
    let b = heard-append i before (map given_up (keep mine s.waiters)) in
    let e = heard_of i given_up (λ (w : Lock). w.id) (λ w. unfold given_up in refl) (keep mine s.waiters) in
    let f = heard_of i given_up (λ (w : Lock). w.id) (λ w. unfold given_up in refl) (keep on s.waiters) in
    let g = count_sub i (sub_map (λ (w : Lock). w.id) (sub_kept on (sub_keep (λ w. not (mine w)) s.waiters))) in
    let k = count_keep i (λ (w : Lock). w.id) mine s.waiters in
    let l = count_keep i (λ (w : Lock). w.id) on rest in
    rw (length-map s.channels (without j)) (omega arith)

go_on-told : (i : ℕ) (f : Found) (w : Walk) (s : State) (again : State → Settled)
    → ((u : State) → Told i u (again u).replies (again u).state) → Told i s (go_on f w s again).replies (go_on f w s again).state
unfolding go_on walked
go_on-told i nobody w s again ih = omega arith
go_on-told i (somebody r m) w s again ih =
    let u = walked w s in
    let g = granted m r.key r.prec u in
    let own = replied 0 m (key_for r.key u) r in
    let a = heard-append i (w.replies ++ dropped m s) (own ∷ (again g).replies) in
    let b = heard-append i w.replies (dropped m s) in
    let d = count_sub i (sub_map (λ (x : Reply). x.id) (dropped-told m s)) in
    let e = count_cons i own.id (heard (again g).replies) in
    let k : count i (lock_ids g.waiters) ≡ count i (lock_ids (cut m s).waiters) = unfold granted cut in refl in
    let l = cut_count i m s in
    let h = ih g in
    omega arith

rounds-told : (i n : ℕ) (s : State) → Told i s (rounds n s).replies (rounds n s).state
unfolding rounds
rounds-told i zero s = omega arith
rounds-told i (suc n) s =
    let w = walk s.channels s.waiting s.locks in go_on-told i w.found w s (rounds n) (rounds-told i n)

settling-told : (i : ℕ) (s : State) (o : Outcome) → ToldOut i s o → ToldOut i s (settling o)
unfolding settling settle
settling-told i s o h =
    let t = rounds (suc (length o.next.waiting)) o.next in
    let a = heard-append i o.replies t.replies in
    let b = rounds-told i (suc (length o.next.waiting)) o.next in
    omega arith

accept-told : (i : ℕ) (o : Op) (c : Call) (s : State) → ToldOut i s (accept o c s)
unfolding accept open_settling do_open
accept-told i OPEN c s =
    let l = look c.prec c.combos s.channels in
    let h = alone-told i (look_cut l) s (opening l c s) (opening-cuts l c s) in
    if_elim (ToldOut i s) (eqb (opening l c s).answer.error ALLOCFAILED) (λ _. h) (λ _. settling-told i s (opening l c s) h)
accept-told i CLOSE c s = settling-told i s (do_close c s) (alone-told i (owned c.key s.channels) s (do_close c s) (close_cuts c s))
accept-told i ABORT c s = settling-told i s (do_abort c s) (abort_told i c s)
accept-told i (EVENT v) c s = settling-told i s (do_event v c s) (event_told i v c s)
accept-told i (COMMAND n) c s =
    settling-told i s (perform (kind n) c s)
    (alone-told i (kind_cut (kind n) c s) s (perform (kind n) c s) (perform-cuts (kind n) c s))

waiters-among : (i : ℕ) (s : State) → count i (lock_ids s.waiters) ≤ count i (ids s)
unfolding ids
waiters-among i s =
    count_sub i (sub_left (wait_ids s.waiting) (sub_right (writes_of s.channels ++ lock_ids s.locks) (sub_refl (lock_ids s.waiters))))

-- in whatever call, settling's grants included: who waited for a cycle before it waits still or has one reply, and not both
pub waiter-told-once : (s : State) (c : Call) → T (sound s) → (i : ℕ) → T (among i (lock_ids s.waiters))
    → count i (heard (call s c).replies) + count i (lock_ids (call s c).next.waiters) ≡ 1
unfolding call answering
waiter-told-once s c t i a =
    let n = distinct-count i _ (replies-apart s c t) in
    let k = count-append i (heard (call s c).replies) (ids (call s c).next) in
    let h = go (refusal c.op c s) in
    let x = count-among i _ a in
    let y = waiters-among i (call s c).next in
    omega arith
  where
    go : (r : Refusal) → ToldOut i s (answering r c s)
    go accepted = accept-told i c.op c s
    go (refused e) = rw (refuse_same c.op e c s) (omega arith)
