-- Each command does what it did. Assumes that a WRITE carries no numbers, and that a READ is of the desk of every write.
use Prim.Native.Nat.{ℕ}
use mathlib.Core.Path.{◌≡◌, refl, ap, ap₂, sym, ◌∙◌}
use mathlib.Core.Bool.{Bool, true, false, not, ◌&&◌}
use mathlib.Core.List.{List, [], ◌∷◌, ◌++◌, map, map-map, map-append, append-nil}
use lib.Dec.{T, eqb}
use lib.ListN.{length, length-map}
use Rattle.machine.specs.Numbers.{quick, NONE, NOALLOCATION, CMD_READ, CMD_WRITE, ADCMD_LOCK, ADCMD_FREE}
use Rattle.std.specs.Prelude.{if◌then◌else◌}
use Rattle.machine.specs.Lists.{keep}
use Rattle.machine.specs.State.{Write, Channel, Reply, CYCLE_ENDED, with_channels}
use Rattle.machine.specs.Sound.{ids}
use Rattle.machine.specs.Maps.{odd, half, bit, minus, lowest, change, at}
use Rattle.machine.specs.Commands.{matches, matching, mismatch, done, pending, finished, silent, freed, set_lock, set_writes, cleared, is_empty, ended, freeing, freeing_replies, each, each_change, do_free, do_lock, front, playing, do_read, cycles_in, period_in, volume_in, write_of, do_write, is_last, last_replies, cycled, front_cycled, event_replies, happened, do_event, closed, owned, do_close, aborted_writes, aborted_waits, without, aborted_by, leaving, led_by, do_abort}
use Rattle.machine.proofs.Tests.{and_right}
use Rattle.machine_laws.proofs.Maps.{odd-bit, half-bit}
use Rattle.machine_laws.proofs.KeepingCalls.{change_zero}
use Rattle.old_logs.specs.Old
use Rattle.old_logs.specs.Now.{now_write, now_channel, now_lock, now_request, now, now_reply, now_answer, now_outcome, now_call}
use Rattle.old_logs.proofs.Lists.{if_out, if_as, keep_map, map_as}
use Rattle.old_logs.proofs.Maps.{length-now, lowest-now, named-now, change-now, at_now}
use Rattle.old_logs.proofs.Halves.{Mine, reads-mine}
use Rattle.old_logs.proofs.Granting.{aborted-now, cut_now, cut_replies-now, dropped-now}

-- ---- which channels match

matching-now : (k m : ℕ) (cs : List Old.Channel) → matching k m (map now_channel cs) ≡ Old.matching k m cs
unfolding matching matches bit odd half Old.matching Old.matches Old.bit Old.odd Old.half
matching-now k m [] = refl
matching-now k m (c ∷ cs) = ap (bit (odd m && matches k (now_channel c))) (matching-now k (half m) cs)

mismatch-now : (k m : ℕ) (cs : List Old.Channel) → mismatch k m (map now_channel cs) ≡ Old.mismatch k m cs
unfolding mismatch matches Old.mismatch Old.matches
mismatch-now k m cs = ap not (named-now (matches k) m cs)

owned-now : (k : ℕ) (cs : List Old.Channel) → owned k (map now_channel cs) ≡ Old.owned k cs
unfolding owned matches bit Old.owned Old.matches Old.bit
owned-now k [] = refl
owned-now k (c ∷ cs) = ap (bit (matches k (now_channel c))) (owned-now k cs)

pub low-now : (cs : List Old.Channel) (m : ℕ) → lowest (length (map now_channel cs)) m ≡ Old.lowest (length cs) m
low-now cs m = rw (length-now cs) (lowest-now (length cs) m)

-- ---- outcomes

pub finished-now : (n : ℕ) (c : Old.Call) (a : Old.Answer) (rs : List Old.Reply) (s : Old.State)
    → finished n (now_call c) (now_answer a) (map now_reply rs) (now s) ≡ now_outcome (Old.finished n c a rs s)
unfolding finished quick Old.finished Old.quick
finished-now n c a rs s =
    let r : Old.Reply = record { id = c.id; command = n; error = a.error; map = a.map; key = a.key } in
    ap (λ (l : List Reply). record { answer = now_answer a; replies = l; next = now s })
    (ap (λ (l : List Reply). map now_reply rs ++ l) (if_out (map now_reply) (Old.quick c.flags) [] (r ∷ []))
    ∙ sym (map-append now_reply rs (if Old.quick c.flags then [] else r ∷ [])))

-- ---- locks

cleared-now : (n f : ℕ) (ls : List Old.Lock) → cleared n f (map now_lock ls) ≡ map now_lock (Old.cleared n f ls)
unfolding cleared minus bit odd half Old.cleared Old.minus Old.bit Old.odd Old.half
cleared-now n f ls = map-map _ now_lock ls ∙ sym (map-map now_lock _ ls)

pub ended-now : (e : ℕ) (ls : List Old.Lock) → map (ended e) (map now_lock ls) ≡ map now_reply (map (Old.ended e) ls)
unfolding ended Old.ended
ended-now e ls = map-map (ended e) now_lock ls ∙ sym (map-map now_reply (Old.ended e) ls)

freeing-now : (f : ℕ) (s : Old.State) → freeing f (now s) ≡ now (Old.freeing f s)
unfolding freeing is_empty Old.freeing Old.is_empty
freeing-now f s =
    let ls = Old.cleared (length s.channels) f s.locks in
    rw (cut_now f s, length-now s.channels, cleared-now (length s.channels) f s.locks, keep_map (λ l. not (is_empty l)) now_lock ls, change-now freed Old.freed (λ c. refl) f s.channels)

freeing_replies-now : (f : ℕ) (s : Old.State) → freeing_replies f (now s) ≡ map now_reply (Old.freeing_replies f s)
unfolding freeing_replies is_empty Old.freeing_replies Old.is_empty
freeing_replies-now f s =
    let ls = Old.cleared (length s.channels) f s.locks in
    rw (dropped-now f s, length-now s.channels, cleared-now (length s.channels) f s.locks, keep_map is_empty now_lock ls, ended-now 0 (keep Old.is_empty ls))
    (sym (map-append now_reply (Old.aborted_in f s.channels) (map (Old.ended 0) (keep Old.is_empty ls))))

-- ---- a command over the channels that match

each_now : (n : ℕ) (c : Old.Call) (rs : List Old.Reply) (u s : Old.State) → each n (now_call c) (map now_reply rs) (now u) (now s) ≡ now_outcome (Old.each n c rs u s)
unfolding each done Old.each Old.done
each_now n c rs u s =
    rw (matching-now c.key c.map s.channels, mismatch-now c.key c.map s.channels)
    (finished-now n c _ rs u)

pub each_change-now : (n : ℕ) (f : Channel → Channel) (g : Old.Channel → Old.Channel) → ((c : Old.Channel) → f (now_channel c) ≡ now_channel (g c)) → (d : Bool) (c : Old.Call) (s : Old.State)
    → each_change n f d (now_call c) (now s) ≡ now_outcome (Old.each_change n g d c s)
unfolding each_change Old.each_change
each_change-now n f g e true c s =
    let m = Old.matching c.key c.map s.channels in
    rw (matching-now c.key c.map s.channels, dropped-now m s, cut_now m s, change-now f g e m s.channels)
    (each_now n c (Old.aborted_in m s.channels) (Old.with_channels (Old.change g m s.channels) s) s)
each_change-now n f g e false c s =
    let m = Old.matching c.key c.map s.channels in
    rw (matching-now c.key c.map s.channels, change-now f g e m s.channels)
    (each_now n c [] (Old.with_channels (Old.change g m s.channels) s) s)

pub do_free-now : (c : Old.Call) (s : Old.State) → do_free (now_call c) (now s) ≡ now_outcome (Old.do_free c s)
unfolding do_free Old.do_free
do_free-now c s =
    let m = Old.matching c.key c.map s.channels in
    rw (matching-now c.key c.map s.channels, freeing_replies-now m s, freeing-now m s)
    (each_now ADCMD_FREE c (Old.freeing_replies m s) (Old.freeing m s) s)

pub do_lock-now : (c : Old.Call) (s : Old.State) → do_lock (now_call c) (now s) ≡ now_outcome (Old.do_lock c s)
unfolding do_lock silent pending done Old.do_lock Old.silent Old.pending Old.done
do_lock-now c s =
    rw (mismatch-now c.key c.map s.channels)
    (if_as now_outcome (Old.mismatch c.key c.map s.channels)
    (λ _. finished-now ADCMD_LOCK c (Old.done NOALLOCATION 0 c.key NONE) [] s)
    (λ _. if_as now_outcome (eqb c.map 0)
    (λ _. finished-now ADCMD_LOCK c (Old.done 0 0 c.key NONE) [] s)
    (λ _. rw (change-now set_lock Old.set_lock (λ x. refl) c.map s.channels, map-append now_lock s.locks))))

front_now : (is : List ℕ) → front (map now_write is) ≡ Old.front is
unfolding front Old.front
front_now [] = refl
front_now (i ∷ is) = refl

pub do_read-now : (c : Old.Call) (s : Old.State) → Mine (now_call c).desk (ids (now s)) → do_read (now_call c) (now s) ≡ now_outcome (Old.do_read c s)
unfolding do_read matches done Old.do_read Old.matches Old.done
do_read-now c s t =
    let m = Old.lowest (length s.channels) c.map in
    let h = Old.at m s.channels in
    rw (low-now s.channels c.map, reads-mine (now_call c).desk m (now s) t, at_now m s.channels, front_now h.writes)
    (if_as now_outcome (Old.matches c.key h)
    (λ _. finished-now CMD_READ c (Old.done 0 m c.key (if h.stopped then NONE else Old.front h.writes)) [] s)
    (λ _. finished-now CMD_READ c (Old.done NOALLOCATION 0 c.key NONE) [] s))

write_of-now : (c : Old.Call) → c.combos ≡ [] → write_of (now_call c) ≡ now_write c.id
unfolding cycles_in period_in volume_in
write_of-now c e = rw e refl

pub do_write-now : (c : Old.Call) → c.combos ≡ [] → (s : Old.State) → do_write (now_call c) (now s) ≡ now_outcome (Old.do_write c s)
unfolding do_write matches silent pending done Old.do_write Old.matches Old.silent Old.pending Old.done
do_write-now c e s =
    let m = Old.lowest (length s.channels) c.map in
    let h = Old.at m s.channels in
    let ws = h.writes ++ c.id ∷ [] in
    let q : map now_write h.writes ++ write_of (now_call c) ∷ [] ≡ map now_write ws =
    ap (λ (w : Write). map now_write h.writes ++ w ∷ []) (write_of-now c e) ∙ sym (map-append now_write h.writes (c.id ∷ [])) in
    rw (low-now s.channels c.map, at_now m s.channels)
    (if_as now_outcome (Old.matches c.key h)
    (λ _. ap (λ (cs : List Channel). silent (pending c.key) [] (with_channels cs (now s)))
    (change-now (set_writes (map now_write h.writes ++ write_of (now_call c) ∷ [])) (Old.set_writes ws) (λ x. ap (λ (l : List Write). set_writes l (now_channel x)) q) m s.channels))
    (λ _. finished-now CMD_WRITE c (Old.done NOALLOCATION 0 c.key NONE) [] s))

-- ---- the event: the front write has one cycle, so its last has ended

playing-now : (c : Old.Channel) → playing (now_channel c) ≡ Old.playing c
unfolding playing Old.playing
playing-now c = rw (length-map c.writes now_write)

-- a map of one bit: what is done to the channel that it names is all that is done
change-lowest : (f g : Channel → Channel) (k : ℕ) (cs : List Channel) (m : ℕ) → lowest (length cs) k ≡ m → f (at m cs) ≡ g (at m cs) → change f m cs ≡ change g m cs
unfolding change at lowest odd half
change-lowest f g k [] m l e = refl
change-lowest f g k (c ∷ cs) m l e = rw (← l) (go (odd k) (change-lowest f g (half k) cs (lowest (length cs) (half k)) refl) (rw (← l) at e))
  where
    low : Bool → ℕ
    low b = if b then 1 else bit false (lowest (length cs) (half k))

    Same : ℕ → List Channel → Type 0
    Same x ds = f (at x ds) ≡ g (at x ds) → change f x ds ≡ change g x ds

    go : (b : Bool) → Same (lowest (length cs) (half k)) cs → Same (low b) (c ∷ cs)
    go true ih q = ap₂ (λ (x : Channel) (l : List Channel). x ∷ l) q (change_zero f cs ∙ sym (change_zero g cs))
    go false ih q =
        let x = lowest (length cs) (half k) in
        rw (odd-bit false x, half-bit false x) (ap (λ (l : List Channel). c ∷ l) (ih (rw (odd-bit false x, half-bit false x) at q)))

cycled-now : (is : List ℕ) → cycled (map now_write is) ≡ map now_write (Old.back is)
unfolding cycled is_last Old.back
cycled-now [] = refl
cycled-now (i ∷ is) = refl

last_replies-now : (m k : ℕ) (is : List ℕ) → T (not (eqb (length is) 0))
    → last_replies m k (map now_write is) ≡ map now_reply (record { id = Old.front is; command = CMD_WRITE; error = 0; map = m; key = k } ∷ [])
unfolding last_replies Old.front
last_replies-now m k [] t = absurd t
last_replies-now m k (i ∷ is) t = refl

happened-now : (k : ℕ) (s : Old.State) → (let m = Old.lowest (length s.channels) k in
    happened CYCLE_ENDED m (now s) ≡ now (Old.with_channels (Old.change (Old.set_writes (Old.back (Old.at m s.channels).writes)) m s.channels) s))
unfolding happened
happened-now k s =
    let m = Old.lowest (length s.channels) k in
    let h = Old.at m s.channels in
    let ws = map now_write (Old.back h.writes) in
    let q : front_cycled (at m (map now_channel s.channels)) ≡ set_writes ws (at m (map now_channel s.channels)) =
    rw (at_now m s.channels, cycled-now h.writes) in
    let e : change front_cycled m (map now_channel s.channels) ≡ change (set_writes ws) m (map now_channel s.channels) =
    change-lowest front_cycled (set_writes ws) k (map now_channel s.channels) m (low-now s.channels k) q in
    rw (cut_now m s, e, change-now (set_writes ws) (Old.set_writes (Old.back h.writes)) (λ x. refl) m s.channels)

pub do_event-now : (c : Old.Call) (s : Old.State) → do_event CYCLE_ENDED (now_call c) (now s) ≡ now_outcome (Old.do_event c s)
unfolding do_event event_replies keep silent done Old.do_event Old.silent Old.done
do_event-now c s =
    let m = Old.lowest (length s.channels) c.map in
    let h = Old.at m s.channels in
    rw (low-now s.channels c.map, at_now m s.channels, playing-now h)
    (if_as now_outcome (Old.playing h)
    (λ t. rw (last_replies-now m h.key h.writes (and_right (not h.stopped) (not (eqb (length h.writes) 0)) (unfold Old.playing in t)), happened-now c.map s))
    (λ _. refl))

-- ---- CLOSE and ABORT

pub do_close-now : (c : Old.Call) (s : Old.State) → do_close (now_call c) (now s) ≡ now_outcome (Old.do_close c s)
unfolding do_close closed silent done Old.do_close Old.closed Old.silent Old.done
do_close-now c s =
    let m = Old.owned c.key s.channels in
    rw (owned-now c.key s.channels, freeing_replies-now m s, freeing-now m s)

aborted_writes-now : (i : ℕ) (cs : List Old.Channel) → aborted_writes i (map now_channel cs) ≡ map now_reply (Old.aborted_writes i cs)
unfolding aborted_writes Old.aborted_writes
aborted_writes-now i [] = refl
aborted_writes-now i (c ∷ cs) =
    let ws = keep (eqb i) c.writes in
    rw (keep_map (λ w. eqb i w.id) now_write c.writes, aborted-now c.key ws, aborted_writes-now i cs)
    (sym (map-append now_reply (Old.aborted c.key ws) (Old.aborted_writes i cs)))

aborted_waits-now : (i : ℕ) (rs : List Old.Request) → aborted_waits i (map now_request rs) ≡ map now_reply (Old.aborted_waits i rs)
unfolding aborted_waits Old.aborted_waits
aborted_waits-now i rs =
    let qs = keep (λ r. eqb i r.id) rs in
    rw (keep_map (λ r. eqb i r.id) now_request rs) (map-map _ now_request qs ∙ sym (map-map now_reply _ qs))

without_now : (i : ℕ) (c : Old.Channel) → without i (now_channel c) ≡ now_channel (Old.without i c)
unfolding without Old.without
without_now i c = ap (λ (l : List Write). set_writes l (now_channel c)) (keep_map (λ w. not (eqb i w.id)) now_write c.writes)

aborted_by-now : (i : ℕ) (s : Old.State) → aborted_by i (now s) ≡ map now_reply (Old.aborted_writes i s.channels ++ Old.aborted_waits i s.waiting)
unfolding aborted_by keep
aborted_by-now i s =
    rw (aborted_writes-now i s.channels, aborted_waits-now i s.waiting, append-nil)
    (sym (map-append now_reply (Old.aborted_writes i s.channels) (Old.aborted_waits i s.waiting)))

leaving-now : (i : ℕ) (s : Old.State)
    → leaving i (now s) ≡ now (Old.with_waiting (keep (λ r. not (eqb i r.id)) s.waiting) (Old.with_channels (map (Old.without i) s.channels) s))
unfolding leaving keep
leaving-now i s =
    let cs = s.channels in
    rw (
      keep_map (λ r. not (eqb i r.id)) now_request s.waiting,
      map-map (without i) now_channel cs ∙ map_as (λ c. without i (now_channel c)) (λ c. now_channel (Old.without i c)) cs (without_now i) ∙ sym (map-map now_channel (Old.without i) cs),
    )

pub do_abort-now : (c : Old.Call) (s : Old.State) → do_abort (now_call c) (now s) ≡ now_outcome (Old.do_abort c s)
unfolding do_abort silent done Old.do_abort Old.silent Old.done
do_abort-now c s =
    let i = c.id in
    let m = led_by i (map now_channel s.channels) in
    let rs = Old.aborted_writes i s.channels ++ Old.aborted_waits i s.waiting in
    rw (aborted_by-now i s, cut_replies-now m s, append-nil, leaving-now i s, cut_now m, length-map rs now_reply)
