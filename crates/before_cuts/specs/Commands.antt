-- Document 01, "The other commands": what each does before settling, with CLOSE, ABORT and the event.
-- Assumes nothing.
--
--   matches key c          the channel has the key; key 0 matches nothing
--   matching key m cs      of the channels that m names, those that match
--   mismatch key m cs      some channel that m names does not
--   done e m k x           the answer of a call finished at once: error, map, key, last byte
--   pending k              the answer of a command that is outstanding
--   finished n c a rs s    command n finished at once: the replies rs, then its own unless QUICK
--   silent a rs s          a call without a reply of its own
--   reset .. set_writes     what the commands do to one channel
--   cleared n f ls         the locks with the bits f cleared
--   ended e l              the reply to a lock that ends
--   freeing f s            the state with the channels f freed; freeing_replies f s: the replies of that
--   each, each_change       a command over the channels selected, the mismatching ones left out
--   do_free .. do_abort      the commands, CLOSE, ABORT and the event
--   front, back, playing   the first write of a queue or 255, the others, and whether an event would end one
--   owned key cs           the channels with the key
use Rattle.std.specs.Prelude.{ℕ, zero, suc, Bool, true, false, not, ◌&&◌, List, [], ◌∷◌, ◌++◌, map, eqb, length, if◌then◌else◌}
use Rattle.before_cuts.specs.Numbers.{quick, ABORTED, NOALLOCATION, NONE, CMD_READ, CMD_WRITE, ADCMD_FREE, ADCMD_LOCK, ADCMD_ALLOCATE}
use Rattle.machine.specs.Lists.{keep}
use Rattle.before_cuts.specs.State.{Channel, Lock, Request, State, Reply, Answer, Outcome, Call, free, with_channels, with_locks, with_waiting, with_opens}
use Rattle.before_cuts.specs.Maps.{odd, half, bit, minus, lowest, named, change, at}
use Rattle.before_cuts.specs.Granting.{aborted, aborted_in}

-- "Key 0 matches nothing."
unfoldable pub matches : ℕ → Channel → Bool
matches key c = not (eqb key 0) && eqb c.key key

unfoldable pub matching : ℕ → ℕ → List Channel → ℕ
matching key m [] = 0
matching key m (c ∷ cs) = bit (odd m && matches key c) (matching key (half m) cs)

unfoldable pub mismatch : ℕ → ℕ → List Channel → Bool
mismatch key m cs = not (named (matches key) m cs)

unfoldable pub done : ℕ → ℕ → ℕ → ℕ → Answer
done error m key extra = record { outstanding = false; error = error; map = m; key = key; extra = extra }

-- "A1 has error 0, map 0, the request's key"
unfoldable pub pending : ℕ → Answer
pending key = record { outstanding = true; error = 0; map = 0; key = key; extra = NONE }

-- "A command finished at once is also replied if QUICK (flag 1) is clear"; its own reply stands behind those to writes and
-- locks, and before settling's.
unfoldable pub finished : ℕ → Call → Answer → List Reply → State → Outcome
finished command c a before s =
    record {
      answer = a;
      replies =
          before
          ++ (if quick c.flags then [] else record { id = c.id; command = command; error = a.error; map = a.map; key = a.key } ∷ []);
      next = s;
    }

unfoldable pub silent : Answer → List Reply → State → Outcome
silent a before s = record { answer = a; replies = before; next = s }

-- "RESET flushes and un-stops."
abbrev pub reset : Channel → Channel
reset c = record { key = c.key; prec = c.prec; locked = c.locked; stopped = false; writes = [] }

-- "FREE resets it, unlocks it, makes it free"
abbrev pub freed : Channel → Channel
freed c = free

-- "SETPREC sets the precedence."
abbrev pub set_prec : ℕ → Channel → Channel
set_prec p c = record { key = c.key; prec = p; locked = c.locked; stopped = c.stopped; writes = c.writes }

-- "FLUSH aborts all its writes."
abbrev pub flushed : Channel → Channel
flushed c = record { key = c.key; prec = c.prec; locked = c.locked; stopped = c.stopped; writes = [] }

-- "STOP and START set and clear the stop mark."
abbrev pub set_stop : Bool → Channel → Channel
set_stop b c = record { key = c.key; prec = c.prec; locked = c.locked; stopped = b; writes = c.writes }

abbrev pub set_lock : Channel → Channel
set_lock c = record { key = c.key; prec = c.prec; locked = true; stopped = c.stopped; writes = c.writes }

-- "CLEAR and UPDATE do nothing."
abbrev pub same : Channel → Channel
same c = c

abbrev pub set_writes : List ℕ → Channel → Channel
set_writes ws c = record { key = c.key; prec = c.prec; locked = c.locked; stopped = c.stopped; writes = ws }

-- "clears its bit in every lock"
unfoldable pub cleared : ℕ → ℕ → List Lock → List Lock
cleared n f ls = map (λ l. record { id = l.id; key = l.key; map = minus n l.map f }) ls

unfoldable pub is_empty : Lock → Bool
is_empty l = eqb l.map 0

unfoldable pub ended : ℕ → Lock → Reply
ended error l = record { id = l.id; command = ADCMD_LOCK; error = error; map = l.map; key = l.key }

unfoldable pub freeing : ℕ → State → State
freeing f s =
    let ls = cleared (length s.channels) f s.locks in
    with_locks (keep (λ l. not (is_empty l)) ls) (with_channels (change freed f s.channels) s)

-- "writes ended or aborted, by channel then oldest first; locks emptied, oldest first"; "a lock with no bit left is replied 0
-- with map 0"
unfoldable pub freeing_replies : ℕ → State → List Reply
freeing_replies f s =
    aborted_in f s.channels
    ++ map (ended 0) (keep is_empty (cleared (length s.channels) f s.locks))

-- "Any mismatch gives -10, and the rest is still done." "Map 0 is done with map 0."
unfoldable pub each : ℕ → Call → List Reply → State → State → Outcome
each command c before next s =
    let m = matching c.key c.map s.channels in
    let e : ℕ = if mismatch c.key c.map s.channels then NOALLOCATION else 0 in
    finished command c (done e m c.key NONE) before next

-- RESET, UPDATE, CLEAR, STOP, START, FLUSH, SETPREC: f at each channel that matches, its writes aborted where `drops` says so
unfoldable pub each_change : ℕ → (Channel → Channel) → Bool → Call → State → Outcome
each_change command f drops c s =
    let m = matching c.key c.map s.channels in
    each command c (if drops then aborted_in m s.channels else []) (with_channels (change f m s.channels) s) s

unfoldable pub do_free : Call → State → Outcome
do_free c s = let m = matching c.key c.map s.channels in each ADCMD_FREE c (freeing_replies m s) (freeing m s) s

-- "LOCK: any mismatch locks nothing, -10, map 0. Map 0 is done at once. Otherwise it is outstanding."
unfoldable pub do_lock : Call → State → Outcome
do_lock c s =
    if mismatch c.key c.map s.channels then
    finished ADCMD_LOCK c (done NOALLOCATION 0 c.key NONE) [] s
    else if eqb c.map 0 then
    finished ADCMD_LOCK c (done 0 0 c.key NONE) [] s
    else
    silent (pending c.key) []
    (with_locks (s.locks ++ record { id = c.id; key = c.key; map = c.map } ∷ [])
    (with_channels (change set_lock c.map s.channels) s))

unfoldable pub front : List ℕ → ℕ
front [] = NONE
front (i ∷ is) = i

unfoldable pub back : List ℕ → List ℕ
back [] = []
back (i ∷ is) = is

unfoldable pub playing : Channel → Bool
playing c = not c.stopped && not (eqb (length c.writes) 0)

-- "READ answers that bit and the id at the front, or 255 if the queue is empty or the channel stopped." "map 0 gives -10"
unfoldable pub do_read : Call → State → Outcome
do_read c s =
    let m = lowest (length s.channels) c.map in
    let h = at m s.channels in
    if matches c.key h then
    finished CMD_READ c (done 0 m c.key (if h.stopped then NONE else front h.writes)) [] s
    else
    finished CMD_READ c (done NOALLOCATION 0 c.key NONE) [] s

-- "WRITE joins the queue and is outstanding."
unfoldable pub do_write : Call → State → Outcome
do_write c s =
    let m = lowest (length s.channels) c.map in
    let h = at m s.channels in
    if matches c.key h then
    silent (pending c.key) [] (with_channels (change (set_writes (h.writes ++ c.id ∷ [])) m s.channels) s)
    else
    finished CMD_WRITE c (done NOALLOCATION 0 c.key NONE) [] s

-- "If that channel isn't stopped and has a write, the front write is replied 0 with that channel's bit and removed, and the
-- event answers that bit; else map 0."
unfoldable pub do_event : Call → State → Outcome
do_event c s =
    let m = lowest (length s.channels) c.map in
    let h = at m s.channels in
    if playing h then
    silent (done 0 m c.key NONE)
    (record { id = front h.writes; command = CMD_WRITE; error = 0; map = m; key = h.key } ∷ [])
    (with_channels (change (set_writes (back h.writes)) m s.channels) s)
    else
    silent (done 0 0 c.key NONE) [] s

-- #105: "CLOSE removes the oldest entry with its key": entries stand in order of opening.
unfoldable pub closed : ℕ → List ℕ → List ℕ
closed key [] = []
closed key (k ∷ ks) = if eqb key k then ks else k ∷ closed key ks

-- CLOSE "frees every channel with its key"
unfoldable pub owned : ℕ → List Channel → ℕ
owned key [] = 0
owned key (c ∷ cs) = bit (matches key c) (owned key cs)

unfoldable pub do_close : Call → State → Outcome
do_close c s =
    let m = owned c.key s.channels in
    silent (done 0 0 c.key NONE) (freeing_replies m s) (with_opens (closed c.key s.opens) (freeing m s))

-- "ABORT removes a waiting allocation or a write, replied -2; a lock or an idle id answers 'not aborted'." A sound state has
-- the id in at most one place.
unfoldable pub aborted_writes : ℕ → List Channel → List Reply
aborted_writes i [] = []
aborted_writes i (c ∷ cs) = aborted c.key (keep (eqb i) c.writes) ++ aborted_writes i cs

unfoldable pub aborted_waits : ℕ → List Request → List Reply
aborted_waits i rs =
    map (λ r. record { id = r.id; command = ADCMD_ALLOCATE; error = ABORTED; map = 0; key = r.key }) (keep (λ r. eqb i r.id) rs)

unfoldable pub without : ℕ → Channel → Channel
without i c = set_writes (keep (λ j. not (eqb i j)) c.writes) c

unfoldable pub do_abort : Call → State → Outcome
do_abort c s =
    let rs = aborted_writes c.id s.channels ++ aborted_waits c.id s.waiting in
    silent (done 0 0 c.key (if eqb (length rs) 0 then 0 else 1)) rs
    (with_waiting (keep (λ r. not (eqb c.id r.id)) s.waiting) (with_channels (map (without c.id) s.channels) s))
