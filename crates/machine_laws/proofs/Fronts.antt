-- Why whoever waits for a cycle after a call waits for the write that he waited for before it, or has just begun to: a call that ends
-- the front write of a channel takes out who waits there, and every other leaves that write in front. Document 02, #101.
-- Assumes nothing.
--
--   SameFronts x cs ds     at the channels that map x names, both boards have the same write in front
--   AllFronts cs ds ws     so at the channel of each of the WAITCYCLEs ws
use Prim.Native.Nat.{ℕ, zero, suc, ◌<◌, ◌/◌, ◌%◌, ◌^◌}
use mathlib.Core.Path.{◌≡◌, refl, ap, ◌∙◌}
use mathlib.Core.Bool.{Bool, true, false, not, ◌&&◌}
use mathlib.Core.List.{List, [], ◌∷◌, ◌++◌, map}
use native.Mathlib.Omega.{arith}
use lib.Dec.{T, T_not, not_T, eqb, eqb→eq}
use lib.ListN.{length, length-map}
use Rattle.machine.specs.Numbers.{nowait, synced, ALLOCFAILED}
use Rattle.std.specs.Prelude.{if◌then◌else◌}
use Rattle.machine.specs.Lists.{all, keep}
use Rattle.machine.specs.State.{Write, Channel, Lock, State, Outcome, Call, Op, OPEN, CLOSE, ABORT, Event, CYCLE_ENDED, GAVE_UP, EVENT, COMMAND}
use Rattle.machine.specs.Maps.{odd, half, bit, meets, lowest, named, change, at}
use Rattle.machine.specs.Choosing.{Look, fails, held, grants, look}
use Rattle.machine.specs.Granting.{key_for, on_channels, cut, taken, granted}
use Rattle.machine.specs.Commands.{matches, matching, mismatch, finished, silent, reset, freed, set_prec, flushed, set_stop, set_lock, same, set_writes, each, each_change, freeing, front, playing, write_of, in_progress, front_gone, front_cycled, happened, on_first, on_front, remember_finish, remember_tone, set_tone, period_in, volume_in, owned, without, leads, led_by, leaving, do_free, do_finish, do_pervol, do_lock, do_read, do_write, do_waitcycle, do_event, do_close, do_abort}
use Rattle.machine.specs.Allocating.{waits, allocating, do_allocate, opening, do_open}
use Rattle.machine.specs.Settling.{Found, nobody, somebody, Walk, Settled, walk, walked, go_on, rounds, settle}
use Rattle.machine.specs.Sound.{sound, sound_waiter}
use Rattle.machine.specs.Kinds.{Kind, RESET, READ, WRITE, UPDATE, CLEAR, STOP, START, FLUSH, FREE, SETPREC, FINISH, PERVOL, LOCK, WAITCYCLE, ALLOCATE, UNKNOWN, kind}
use Rattle.machine.specs.Refusals.{Refusal, accepted, refused, refusal}
use Rattle.machine.specs.Call.{perform, settling, open_settling, accept, answering, call}
use Rattle.machine.specs.Rule.{channel, Names}
use Rattle.machine.proofs.Tests.{if_elim, by_test, and_left, and_right, test_false}
use Rattle.machine_laws.specs.Lists.{Sub, end, skip, take}
use Rattle.machine_laws.specs.Fronts.{SameFronts, AllFronts}
use Rattle.machine_laws.proofs.Lists.{sub_refl, sub_trans, sub_keep}
use Rattle.machine_laws.proofs.Maps.{odd-bit, half-bit, length-change, names_half, names_bit_head, names_bit_tail, named_says, change-named, change_unnamed, meets_iff, zero_names}
use Rattle.machine_laws.specs.Sound.{Parts}
use Rattle.machine_laws.proofs.Sound.{parts}
use Rattle.machine_laws.proofs.Refusals.{refuse_same}
use Rattle.machine_laws.proofs.Keeping.{served}
use Rattle.machine_laws.specs.Board.{Wide}
use Rattle.machine_laws.proofs.Board.{open_wide, close_wide, abort_wide, event_wide, perform-wide}

abbrev some_write : List Write → Bool
some_write ws = not (eqb (length ws) 0)

-- ---- AllFronts

fronts_refl : (cs : List Channel) (ws : List Lock) → AllFronts cs cs ws
fronts_refl cs [] = tt
fronts_refl cs (w ∷ ws) = (λ i h n. refl, fronts_refl cs ws)

fronts_sub : (cs ds : List Channel) {vs ws : List Lock} → Sub vs ws → AllFronts cs ds ws → AllFronts cs ds vs
fronts_sub cs ds end a = tt
fronts_sub cs ds (skip h) a = fronts_sub cs ds h a.1
fronts_sub cs ds (take h) a = (a.0, fronts_sub cs ds h a.1)

fronts_trans : (cs ds es : List Channel) → length ds ≡ length cs → (ws : List Lock) → AllFronts cs ds ws → AllFronts ds es ws → AllFronts cs es ws
fronts_trans cs ds es e [] a b = tt
fronts_trans cs ds es e (w ∷ ws) a b =
    (λ i h n. b.0 i (let l = h in omega arith) n ∙ a.0 i h n, fronts_trans cs ds es e ws a.1 b.1)

-- ---- changes of channels

fronts_keep : (q : Lock → Bool) (cs ds : List Channel) → ((w : Lock) → T (q w) → SameFronts w.map cs ds) → (ws : List Lock)
    → AllFronts cs ds (keep q ws)
unfolding keep
fronts_keep q cs ds g [] = tt
fronts_keep q cs ds g (w ∷ ws) =
    if_elim (AllFronts cs ds) (q w) (λ u. (g w u, fronts_keep q cs ds g ws)) (λ _. fronts_keep q cs ds g ws)

-- those whose channels are not changed
cut_fronts_lem : (f : Channel → Channel) (m : ℕ) (cs : List Channel) (ws : List Lock)
    → AllFronts cs (change f m cs) (keep (λ w. not (on_channels (length cs) m w)) ws)
unfolding on_channels
cut_fronts_lem f m cs =
    fronts_keep (λ w. not (on_channels (length cs) m w)) cs (change f m cs)
    (λ w u i h n. ap (λ (c : Channel). front c.writes)
    (change_unnamed f m cs i (λ x. T_not (meets (length cs) m w.map) u ((meets_iff (length cs) m w.map).1 (i, h, x, n)))))

-- a change that leaves the write in front, where there is one
kept_front : (f : Channel → Channel) (m : ℕ) (cs : List Channel) (w : Lock)
    → ((i : ℕ) → i < length cs → Names m i → T (some_write (channel cs i).writes) → front (f (channel cs i)).writes ≡ front (channel cs i).writes)
    → T (sound_waiter cs w) → SameFronts w.map cs (change f m cs)
unfolding sound_waiter
kept_front f m cs w g t i h n =
    let a = eqb (channel cs i).key w.key in
    let b = not (eqb w.map 0) && eqb (lowest (length cs) w.map) w.map in
    let u = named_says (served w) w.map cs (and_right b (named (served w) w.map cs) t) i h n in
    by_test (eqb (m / 2 ^ i % 2) 1)
    (λ e. let x : Names m i = eqb→eq (m / 2 ^ i % 2) 1 e in
    ap (λ (c : Channel). front c.writes) (change-named f m cs i h x) ∙ g i h x (and_right a (some_write (channel cs i).writes) u))
    (λ e. ap (λ (c : Channel). front c.writes) (change_unnamed f m cs i (λ x. T_not (eqb (m / 2 ^ i % 2) 1) e (rw x tt))))

kept_fronts : (f : Channel → Channel) (m : ℕ) (cs : List Channel)
    → ((i : ℕ) → i < length cs → Names m i → T (some_write (channel cs i).writes) → front (f (channel cs i)).writes ≡ front (channel cs i).writes)
    → (ws : List Lock) → T (all (sound_waiter cs) ws) → AllFronts cs (change f m cs) ws
unfolding all
kept_fronts f m cs g [] t = tt
kept_fronts f m cs g (w ∷ ws) t =
    (kept_front f m cs w g (and_left (sound_waiter cs w) (all (sound_waiter cs) ws) t), kept_fronts f m cs g ws (and_right (sound_waiter cs w) (all (sound_waiter cs) ws) t))

-- ---- before settling

abbrev Fronted : State → Outcome → Type 0
Fronted s o = AllFronts s.channels o.next.channels o.next.waiters

-- the writes stay as they are
plain_fronts : (k : ℕ) (f : Channel → Channel) → ((c : Channel) → front (f c).writes ≡ front c.writes) → (c : Call) (s : State) → Parts s
    → Fronted s (each_change k f false c s)
unfolding each_change each finished
plain_fronts k f g c s p =
    kept_fronts f (matching c.key c.map s.channels) s.channels (λ i h n t. g (channel s.channels i)) s.waiters p.waiters_ok

drop_fronts : (k : ℕ) (f : Channel → Channel) (c : Call) (s : State) → Fronted s (each_change k f true c s)
unfolding each_change each finished cut
drop_fronts k f c s = cut_fronts_lem f (matching c.key c.map s.channels) s.channels s.waiters

freeing_fronts : (m : ℕ) (s : State) → AllFronts s.channels (freeing m s).channels (freeing m s).waiters
unfolding freeing cut
freeing_fronts m s = cut_fronts_lem freed m s.channels s.waiters

granted_fronts : (m key prec : ℕ) (s : State) → AllFronts s.channels (granted m key prec s).channels (granted m key prec s).waiters
unfolding granted cut
granted_fronts m key prec s = cut_fronts_lem (taken (key_for key s) prec) m s.channels s.waiters

-- the front write changed under its id
retuned : (g : Write → Write) → ((w : Write) → (g w).id ≡ w.id) → (c : Channel) → front (on_front g c).writes ≡ front c.writes
unfolding on_front
retuned g e c = if_elim (λ (d : Channel). front d.writes ≡ front c.writes) (playing c) (λ _. go c.writes) (λ _. refl)
  where
    go : (ws : List Write) → front (on_first g ws) ≡ front ws
    go [] = unfold on_first in refl
    go (w ∷ ws) = unfold on_first front in e w

finish_fronts : (c : Call) (s : State) → Parts s → Fronted s (do_finish c s)
unfolding do_finish each finished cut
finish_fronts c s p =
    let m = in_progress (matching c.key c.map s.channels) s.channels in
    if_elim (Fronted s) (synced c.flags) (λ _. plain_fronts 11 (on_front remember_finish) (retuned remember_finish (λ w. refl)) c s p)
    (λ _. cut_fronts_lem front_gone m s.channels s.waiters)

pervol_fronts : (c : Call) (s : State) → Parts s → Fronted s (do_pervol c s)
unfolding do_pervol
pervol_fronts c s p =
    let x = period_in c.combos in
    let y = volume_in c.combos in
    if_elim (λ (g : Write → Write). Fronted s (each_change 12 (on_front g) false c s)) (synced c.flags)
    (λ _. plain_fronts 12 (on_front (remember_tone x y)) (retuned (remember_tone x y) (λ w. refl)) c s p)
    (λ _. plain_fronts 12 (on_front (set_tone x y)) (retuned (set_tone x y) (λ w. refl)) c s p)

-- the channel of the lowest bit is the one that it names
at_named : (m : ℕ) (cs : List Channel) (i : ℕ) → i < length cs → Names (lowest (length cs) m) i → at (lowest (length cs) m) cs ≡ channel cs i
unfolding lowest at
at_named m [] i h n = absurd (omega arith)
at_named m (c ∷ cs) i h n = go (odd m) i h n (at_named (half m) cs)
  where
    x : ℕ
    x = lowest (length cs) (half m)

    go : (b : Bool) (i : ℕ) → i < suc (length cs) → Names (if b then 1 else bit false x) i
        → ((j : ℕ) → j < length cs → Names x j → at x cs ≡ channel cs j)
        → at (if b then 1 else bit false x) (c ∷ cs) ≡ channel (c ∷ cs) i
    go true zero l y ih = unfold at odd in refl
    go true (suc i) l y ih = absurd (zero_names i (unfold half in (names_half 1 i).0 y))
    go false zero l y ih = absurd ((names_bit_head false x).0 y)
    go false (suc i) l y ih =
        unfold at in
        (rw (odd-bit false x, half-bit false x) (ih i (omega arith) ((names_bit_tail false x i).0 y)))

-- one write more behind the others
write_fronts : (c : Call) (s : State) → Parts s → Fronted s (do_write c s)
unfolding do_write silent finished
write_fronts c s p =
    let m = lowest (length s.channels) c.map in
    let h = at m s.channels in
    if_elim (Fronted s) (matches c.key h)
    (λ _. kept_fronts (set_writes (h.writes ++ write_of c ∷ [])) m s.channels
    (λ i l n t. rw (at_named c.map s.channels i l n) (go (channel s.channels i).writes t)) s.waiters p.waiters_ok)
    (λ _. fronts_refl s.channels s.waiters)
  where
    go : (ws : List Write) → T (some_write ws) → front (ws ++ write_of c ∷ []) ≡ front ws
    go [] t = absurd t
    go (w ∷ ws) t = unfold front in refl

lock_fronts : (c : Call) (s : State) → Parts s → Fronted s (do_lock c s)
unfolding do_lock silent finished
lock_fronts c s p =
    if_elim (Fronted s) (mismatch c.key c.map s.channels) (λ _. fronts_refl s.channels s.waiters)
    (λ _. if_elim (Fronted s) (eqb c.map 0) (λ _. fronts_refl s.channels s.waiters)
    (λ _. kept_fronts set_lock c.map s.channels (λ i h n t. refl) s.waiters p.waiters_ok))

waitcycle_fronts : (c : Call) (s : State) → Fronted s (do_waitcycle c s)
unfolding do_waitcycle silent finished
waitcycle_fronts c s =
    let m = lowest (length s.channels) c.map in
    let h = at m s.channels in
    if_elim (Fronted s) (not (matches c.key h)) (λ _. fronts_refl s.channels s.waiters)
    (λ _. if_elim (Fronted s) (playing h) (λ _. fronts_refl s.channels (s.waiters ++ record { id = c.id; key = c.key; map = m } ∷ [])) (λ _. fronts_refl s.channels s.waiters))

allocating_fronts : (l : Look) (c : Call) (s : State) → Fronted s (allocating l c s)
unfolding allocating waits silent finished
allocating_fronts fails c s =
    if_elim (Fronted s) (nowait c.flags) (λ _. fronts_refl s.channels s.waiters) (λ _. fronts_refl s.channels s.waiters)
allocating_fronts (held m) c s = fronts_refl s.channels s.waiters
allocating_fronts (grants m) c s = granted_fronts m c.key c.prec s

opening_fronts : (l : Look) (c : Call) (s : State) → Fronted s (opening l c s)
unfolding opening silent
opening_fronts fails c s = fronts_refl s.channels s.waiters
opening_fronts (held m) c s = fronts_refl s.channels s.waiters
opening_fronts (grants m) c s = granted_fronts m c.key c.prec s

perform_fronts : (k : Kind) (c : Call) (s : State) → Parts s → Fronted s (perform k c s)
unfolding perform do_read do_free do_allocate each finished silent
perform_fronts RESET c s p = drop_fronts 1 reset c s
perform_fronts READ c s p =
    if_elim (Fronted s) (matches c.key (at (lowest (length s.channels) c.map) s.channels)) (λ _. fronts_refl s.channels s.waiters)
    (λ _. fronts_refl s.channels s.waiters)
perform_fronts WRITE c s p = write_fronts c s p
perform_fronts UPDATE c s p = plain_fronts 4 same (λ d. refl) c s p
perform_fronts CLEAR c s p = plain_fronts 5 same (λ d. refl) c s p
perform_fronts STOP c s p = plain_fronts 6 (set_stop true) (λ d. refl) c s p
perform_fronts START c s p = plain_fronts 7 (set_stop false) (λ d. refl) c s p
perform_fronts FLUSH c s p = drop_fronts 8 flushed c s
perform_fronts FREE c s p = freeing_fronts (matching c.key c.map s.channels) s
perform_fronts SETPREC c s p = plain_fronts 10 (set_prec c.prec) (λ d. refl) c s p
perform_fronts FINISH c s p = finish_fronts c s p
perform_fronts PERVOL c s p = pervol_fronts c s p
perform_fronts LOCK c s p = lock_fronts c s p
perform_fronts WAITCYCLE c s p = waitcycle_fronts c s
perform_fronts ALLOCATE c s p = allocating_fronts (look c.prec c.combos s.channels) c s
perform_fronts UNKNOWN c s p = fronts_refl s.channels s.waiters

close_fronts : (c : Call) (s : State) → Fronted s (do_close c s)
unfolding do_close silent
close_fronts c s = freeing_fronts (owned c.key s.channels) s

happened_fronts : (v : Event) (m : ℕ) (s : State) → AllFronts s.channels (happened v m s).channels (happened v m s).waiters
unfolding happened cut
happened_fronts CYCLE_ENDED m s = cut_fronts_lem front_cycled m s.channels s.waiters
happened_fronts GAVE_UP m s = cut_fronts_lem front_gone m s.channels s.waiters

event_fronts : (v : Event) (c : Call) (s : State) → Fronted s (do_event v c s)
unfolding do_event silent
event_fronts v c s =
    let m = lowest (length s.channels) c.map in
    if_elim (Fronted s) (playing (at m s.channels)) (λ _. happened_fronts v m s) (λ _. fronts_refl s.channels s.waiters)

-- ---- ABORT

-- the channels at whose front the write is
led_names : (j : ℕ) (cs : List Channel) (i : ℕ) → i < length cs → T (leads j (channel cs i).writes) → Names (led_by j cs) i
unfolding led_by
led_names j [] i h t = absurd (omega arith)
led_names j (c ∷ cs) zero h t = (names_bit_head (leads j c.writes) (led_by j cs)).1 t
led_names j (c ∷ cs) (suc i) h t = (names_bit_tail (leads j c.writes) (led_by j cs) i).1 (led_names j cs i (omega arith) t)

without_channel : (j : ℕ) (cs : List Channel) (i : ℕ) → i < length cs → channel (map (without j) cs) i ≡ without j (channel cs i)
without_channel j [] i h = absurd (omega arith)
without_channel j (c ∷ cs) zero h = refl
without_channel j (c ∷ cs) (suc i) h = without_channel j cs i (omega arith)

without_front : (j : ℕ) (c : Channel) → T (not (leads j c.writes)) → front (without j c).writes ≡ front c.writes
unfolding without
without_front j c t = go c.writes t
  where
    go : (ws : List Write) → T (not (leads j ws)) → front (keep (λ w. not (eqb j w.id)) ws) ≡ front ws
    go [] u = unfold keep in refl
    go (w ∷ ws) u = unfold leads keep front in rw (test_false (eqb j w.id) u) refl

abort_fronts : (c : Call) (s : State) → Fronted s (do_abort c s)
unfolding do_abort leaving cut silent on_channels
abort_fronts c s =
    rw (length-map cs (without c.id))
    (fronts_keep (λ w. not (on_channels (length cs) m w)) cs (map (without c.id) cs) one (keep (λ w. not (eqb c.id w.id)) s.waiters))
  where
    cs : List Channel
    cs = s.channels

    m : ℕ
    m = led_by c.id cs

    one : (w : Lock) → T (not (meets (length cs) m w.map)) → SameFronts w.map cs (map (without c.id) cs)
    one w u i h n =
        ap (λ (d : Channel). front d.writes) (without_channel c.id cs i h)
        ∙ without_front c.id (channel cs i)
        (not_T (leads c.id (channel cs i).writes)
        (λ l. T_not (meets (length cs) m w.map) u ((meets_iff (length cs) m w.map).1 (i, h, led_names c.id cs i h l, n))))

-- ---- settling

-- fewer wait, each for the write that he waited for
record Settling (s : State) (t : Settled) : Type 0 where
  fewer : Sub t.state.waiters s.waiters
  fronts : AllFronts s.channels t.state.channels t.state.waiters

go_on_fronts : (f : Found) (w : Walk) (s : State) (again : State → Settled) → ((u : State) → Settling u (again u)) → Settling s (go_on f w s again)
unfolding go_on walked
go_on_fronts nobody w s again ih = record { fewer = sub_refl s.waiters; fronts = fronts_refl s.channels s.waiters }
go_on_fronts (somebody r m) w s again ih =
    let u = walked w s in
    let g = granted m r.key r.prec u in
    let i = ih g in
    let e : length g.channels ≡ length s.channels = unfold granted in length-change (taken (key_for r.key u) r.prec) m s.channels in
    record {
      fewer = sub_trans i.fewer (unfold granted cut in sub_keep (λ v. not (on_channels (length s.channels) m v)) s.waiters);
      fronts =
          fronts_trans s.channels g.channels (again g).state.channels e (again g).state.waiters
          (fronts_sub s.channels g.channels i.fewer (granted_fronts m r.key r.prec u)) i.fronts;
    }

rounds_fronts : (n : ℕ) (s : State) → Settling s (rounds n s)
unfolding rounds
rounds_fronts zero s = record { fewer = sub_refl s.waiters; fronts = fronts_refl s.channels s.waiters }
rounds_fronts (suc n) s =
    let w = walk s.channels s.waiting s.locks in go_on_fronts w.found w s (rounds n) (rounds_fronts n)

settling_fronts : (s : State) (o : Outcome) → Wide s o.next → Fronted s o → Fronted s (settling o)
unfolding settling settle
settling_fronts s o e f =
    let n = suc (length o.next.waiting) in
    let t = (rounds n o.next).state in
    let h = rounds_fronts n o.next in
    fronts_trans s.channels o.next.channels t.channels e t.waiters (fronts_sub s.channels o.next.channels h.fewer f) h.fronts

-- ---- call

accept_fronts : (o : Op) (c : Call) (s : State) → Parts s → Fronted s (accept o c s)
unfolding accept open_settling do_open
accept_fronts OPEN c s p =
    let l = look c.prec c.combos s.channels in
    if_elim (Fronted s) (eqb (opening l c s).answer.error ALLOCFAILED) (λ _. opening_fronts l c s)
    (λ _. settling_fronts s (opening l c s) (unfold do_open in open_wide c s) (opening_fronts l c s))
accept_fronts CLOSE c s p = settling_fronts s (do_close c s) (close_wide c s) (close_fronts c s)
accept_fronts ABORT c s p = settling_fronts s (do_abort c s) (abort_wide c s) (abort_fronts c s)
accept_fronts (EVENT v) c s p = settling_fronts s (do_event v c s) (event_wide v c s) (event_fronts v c s)
accept_fronts (COMMAND n) c s p = settling_fronts s (perform (kind n) c s) (perform-wide (kind n) c s) (perform_fronts (kind n) c s p)

-- after any call of a sound state, the channel of each who waits for a cycle has in front the write that it had there before
pub call_fronts : (s : State) (c : Call) → T (sound s) → AllFronts s.channels (call s c).next.channels (call s c).next.waiters
unfolding call answering
call_fronts s c t = go (refusal c.op c s)
  where
    go : (f : Refusal) → Fronted s (answering f c s)
    go accepted = accept_fronts c.op c s (parts s t)
    go (refused e) = rw (refuse_same c.op e c s) (fronts_refl s.channels s.waiters)
