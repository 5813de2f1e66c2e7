-- Each premise is needed: for each clause of what is alike, two states that differ for desk A in that clause alone, and a call of A's
-- that they answer or reply to otherwise; and the same for the premises on keys. By computation.
-- Assumes nothing.
--
--   tells s c       what A gets: outstanding, error, map, key, last byte, then the ids replied to in its half
--   Row, row        two states, a call, the clause left out, and what A gets in each
--   clauses         the table of what is alike
--   premised r      all other premises hold of the row
--   Keyed, keyed    the same for the premises on keys: two states that are alike, and the premises that hold of them (no key with
--                   writes of both desks, in each; the call under no key of the other's writes, in each)
use Prim.Native.Nat.{ℕ}
use mathlib.Core.Path.{◌≡◌, refl}
use mathlib.Core.Bool.{Bool, true, false, not, ◌&&◌}
use mathlib.Core.List.{List, [], ◌∷◌, ◌++◌, map}
use Rattle.std.specs.Prelude.{if◌then◌else◌}
use Rattle.machine_laws.specs.machine.Lists.{keep}
use Rattle.machine_laws.specs.machine.State.{Write, Channel, Lock, Request, State, Call, ABORT, COMMAND, free, with_channels, with_locks, with_waiters, with_waiting, with_opens, with_last}
use Rattle.machine_laws.specs.machine.Desks.{DESK_A, replies_to}
use Rattle.machine_laws.specs.machine.Maps.{odd}
use Rattle.machine_laws.specs.machine.Sound.{sound}
use Rattle.machine_laws.specs.machine.Call.{call}
use Rattle.machine_laws.specs.machine.Machine.{machine}
use Rattle.machine_laws.specs.machine.Walks.{plays, chan, lock, wait, stands, asks_from}
use Rattle.one_desk.specs.OneDesk.{mine, own_locks, part, under, one_key, clear, calls}

abbrev tells : State → Call → List ℕ
tells s c =
    let a = (call s c).answer in
    (if a.outstanding then 1 else 0) ∷ a.error ∷ a.map ∷ a.key ∷ a.extra ∷ map (λ r. r.id) (replies_to DESK_A (call s c).replies)

-- ---- what is alike

record Row : Type 0 where
  before : State
  other : State
  ask : Call
  blur : State → State
  gets : List ℕ
  gets_other : List ℕ

abbrev row : State → State → Call → (State → State) → List ℕ → List ℕ → Row
row s t c f xs ys = record { before = s; other = t; ask = c; blur = f; gets = xs; gets_other = ys }

-- channel 0 alone
abbrev one : Channel → List Lock → List Lock → List Request → State
one c ls vs rs = stands (c ∷ free ∷ free ∷ free ∷ []) ls vs rs (1 ∷ []) 1

-- channels 0 and 1 under one key
abbrev two : List Write → List Write → State
two vs ws = stands (chan 1 133 false false vs ∷ chan 1 133 false false ws ∷ free ∷ free ∷ []) [] [] [] (1 ∷ []) 1

-- a queue without its order: the even ids first; the queues of a board without their places: all in one
abbrev even_first : List Write → List Write
even_first ws = keep (λ w. not (odd w.id)) ws ++ keep (λ w. odd w.id) ws

abbrev writes_on : List Channel → List Write
writes_on [] = []
writes_on (c ∷ cs) = c.writes ++ writes_on cs

abbrev each : (Channel → Channel) → State → State
each f s = with_channels (map f s.channels) s

-- a command of A's, id 8, QUICK
abbrev sends : ℕ → ℕ → List ℕ → Call
sends n p ms = asks_from DESK_A (COMMAND n) 8 1 1 p 1 ms 64

-- ALLOCATE with NOWAIT, key 0, at 12
abbrev asks_for : ℕ → Call
asks_for m = asks_from DESK_A (COMMAND 32) 8 65 0 140 0 (m ∷ []) 64

abbrev clauses : List Row
clauses =
    -- its writes: READ
    row (one (chan 1 133 false false (plays 2 1 124 64 ∷ [])) [] [] []) (one (chan 1 133 false false []) [] [] [])
    (sends 2 128 [])
    (each (λ c. chan c.key c.prec c.locked c.stopped []))
    (0 ∷ 0 ∷ 1 ∷ 1 ∷ 2 ∷ [])
    (0 ∷ 0 ∷ 1 ∷ 1 ∷ 255 ∷ [])
    -- their order: READ
    ∷ row (one (chan 1 133 false false (plays 2 1 124 64 ∷ plays 3 1 124 64 ∷ [])) [] [] []) (one (chan 1 133 false false (plays 3 1 124 64 ∷ plays 2 1 124 64 ∷ [])) [] [] [])
    (sends 2 128 [])
    (each (λ c. chan c.key c.prec c.locked c.stopped (even_first c.writes)))
    (0 ∷ 0 ∷ 1 ∷ 1 ∷ 2 ∷ [])
    (0 ∷ 0 ∷ 1 ∷ 1 ∷ 3 ∷ [])
    -- their places: READ
    ∷ row (two (plays 2 1 124 64 ∷ []) []) (two [] (plays 2 1 124 64 ∷ []))
    (sends 2 128 [])
    (λ s. each (λ c. chan c.key c.prec c.locked c.stopped (writes_on s.channels)) s)
    (0 ∷ 0 ∷ 1 ∷ 1 ∷ 2 ∷ [])
    (0 ∷ 0 ∷ 1 ∷ 1 ∷ 255 ∷ [])
    -- its locks: FREE
    ∷ row (one (chan 1 133 true false []) (lock 6 1 1 ∷ []) [] []) (one (chan 1 133 true false []) [] [] [])
    (sends 9 128 [])
    (with_locks [])
    (0 ∷ 0 ∷ 1 ∷ 1 ∷ 255 ∷ 6 ∷ [])
    (0 ∷ 0 ∷ 1 ∷ 1 ∷ 255 ∷ [])
    -- its WAITCYCLEs: FLUSH
    ∷ row (one (chan 1 133 false false (plays 2 1 124 64 ∷ [])) [] (lock 5 1 1 ∷ []) []) (one (chan 1 133 false false (plays 2 1 124 64 ∷ [])) [] [] [])
    (sends 8 128 [])
    (with_waiters [])
    (0 ∷ 0 ∷ 1 ∷ 1 ∷ 255 ∷ 2 ∷ 5 ∷ [])
    (0 ∷ 0 ∷ 1 ∷ 1 ∷ 255 ∷ 2 ∷ [])
    -- the channel keys: READ
    ∷ row (one (chan 1 133 false false []) [] [] []) (one (chan 2 133 false false []) [] [] [])
    (sends 2 128 [])
    (each (λ c. chan 0 c.prec c.locked c.stopped c.writes))
    (0 ∷ 0 ∷ 1 ∷ 1 ∷ 255 ∷ [])
    (0 ∷ 246 ∷ 0 ∷ 1 ∷ 255 ∷ [])
    -- the precedences: ALLOCATE
    ∷ row (one (chan 1 133 false false []) [] [] []) (one (chan 1 200 false false []) [] [] [])
    (asks_for 1)
    (each (λ c. chan c.key 0 c.locked c.stopped c.writes))
    (0 ∷ 0 ∷ 1 ∷ 2 ∷ 255 ∷ [])
    (0 ∷ 245 ∷ 0 ∷ 0 ∷ 255 ∷ [])
    -- the lock marks: ALLOCATE
    ∷ row (one (chan 1 133 false false []) [] [] []) (one (chan 1 133 true false []) [] [] [])
    (asks_for 1)
    (each (λ c. chan c.key c.prec false c.stopped c.writes))
    (0 ∷ 0 ∷ 1 ∷ 2 ∷ 255 ∷ [])
    (1 ∷ 0 ∷ 0 ∷ 0 ∷ 255 ∷ [])
    -- the stop marks: READ
    ∷ row (one (chan 1 133 false false (plays 2 1 124 64 ∷ [])) [] [] []) (one (chan 1 133 false true (plays 2 1 124 64 ∷ [])) [] [] [])
    (sends 2 128 [])
    (each (λ c. chan c.key c.prec c.locked false c.writes))
    (0 ∷ 0 ∷ 1 ∷ 1 ∷ 2 ∷ [])
    (0 ∷ 0 ∷ 1 ∷ 1 ∷ 255 ∷ [])
    -- the waiting list, the other desk's requests too: LOCK, which B's 50 ends, since it is held for channel 0
    ∷ row (one (chan 1 133 false false []) [] [] (wait 50 0 140 false (1 ∷ []) ∷ [])) (one (chan 1 133 false false []) [] [] [])
    (asks_from DESK_A (COMMAND 13) 8 0 1 128 1 [] 64)
    (with_waiting [])
    (1 ∷ 0 ∷ 0 ∷ 1 ∷ 255 ∷ 8 ∷ [])
    (1 ∷ 0 ∷ 0 ∷ 1 ∷ 255 ∷ [])
    -- the last key: ALLOCATE
    ∷ row (one (chan 1 133 false false []) [] [] []) (with_last 5 (one (chan 1 133 false false []) [] [] []))
    (asks_for 2)
    (with_last 0)
    (0 ∷ 0 ∷ 2 ∷ 2 ∷ 255 ∷ [])
    (0 ∷ 0 ∷ 2 ∷ 6 ∷ 255 ∷ [])
    -- the open keys: READ
    ∷ row (one (chan 1 133 false false []) [] [] []) (with_opens [] (one (chan 1 133 false false []) [] [] []))
    (sends 2 128 [])
    (with_opens [])
    (0 ∷ 0 ∷ 1 ∷ 1 ∷ 255 ∷ [])
    (0 ∷ 2 ∷ 0 ∷ 1 ∷ 255 ∷ [])
    ∷ []

abbrev premised : Row → Bool
premised r =
    let c = r.ask in
    sound r.before && sound r.other && one_key r.before && one_key r.other && calls DESK_A c.op c && clear DESK_A c.key r.before && clear DESK_A c.key r.other

pub clauses-premised : map premised clauses ≡ map (λ _. true) clauses
unfolding machine under one_key clear calls
clauses-premised = refl

pub clauses-alike_but_for_one : map (λ r. r.blur (part DESK_A r.before)) clauses ≡ map (λ r. r.blur (part DESK_A r.other)) clauses
unfolding machine mine own_locks
clauses-alike_but_for_one = refl

pub clauses-needed : (map (λ r. tells r.before r.ask) clauses ≡ map (λ r. r.gets) clauses)
    × (map (λ r. tells r.other r.ask) clauses ≡ map (λ r. r.gets_other) clauses)
unfolding machine
clauses-needed = (refl, refl)

-- ---- the premises on keys

record Keyed : Type 0 where
  before : State
  other : State
  ask : Call
  holds : List Bool
  gets : List ℕ
  gets_other : List ℕ

abbrev keyed : State → State → Call → List Bool → List ℕ → List ℕ → Keyed
keyed s t c bs xs ys = record { before = s; other = t; ask = c; holds = bs; gets = xs; gets_other = ys }

abbrev keys : List Keyed
keys =
    -- under a key of the other's writes in one state: A's WAITCYCLE waits for B's 40
    keyed (one (chan 1 133 false false (plays 40 1 124 64 ∷ [])) [] [] []) (one (chan 1 133 false false []) [] [] [])
    (sends 14 128 [])
    (true ∷ true ∷ false ∷ true ∷ [])
    (1 ∷ 0 ∷ 0 ∷ 1 ∷ 255 ∷ [])
    (0 ∷ 0 ∷ 1 ∷ 1 ∷ 255 ∷ [])
    -- in both: B's 40 is on channel 0, or on channel 1
    ∷ keyed (two (plays 40 1 124 64 ∷ []) []) (two [] (plays 40 1 124 64 ∷ []))
    (sends 14 128 [])
    (true ∷ true ∷ false ∷ false ∷ [])
    (1 ∷ 0 ∷ 0 ∷ 1 ∷ 255 ∷ [])
    (0 ∷ 0 ∷ 1 ∷ 1 ∷ 255 ∷ [])
    -- writes of both desks under one key: A's ABORT of 2, which B's 40 stands before, cuts nothing; alone in its queue it cuts off A's 5
    ∷ keyed (one (chan 1 133 false false (plays 40 1 124 64 ∷ plays 2 1 124 64 ∷ [])) [] (lock 5 1 1 ∷ []) []) (one (chan 1 133 false false (plays 2 1 124 64 ∷ [])) [] (lock 5 1 1 ∷ []) [])
    (asks_from DESK_A ABORT 2 0 0 128 0 [] 64)
    (false ∷ true ∷ true ∷ true ∷ [])
    (0 ∷ 0 ∷ 0 ∷ 0 ∷ 1 ∷ 2 ∷ [])
    (0 ∷ 0 ∷ 0 ∷ 0 ∷ 1 ∷ 2 ∷ 5 ∷ [])
    ∷ []

pub keys-sound : map (λ r. sound r.before && sound r.other && calls DESK_A r.ask.op r.ask) keys ≡ map (λ _. true) keys
unfolding machine calls
keys-sound = refl

pub keys-alike : map (λ r. part DESK_A r.before) keys ≡ map (λ r. part DESK_A r.other) keys
unfolding machine mine own_locks
keys-alike = refl

pub keys_hold : map (λ r. one_key r.before ∷ one_key r.other ∷ clear DESK_A r.ask.key r.before ∷ clear DESK_A r.ask.key r.other ∷ []) keys ≡ map (λ r. r.holds) keys
unfolding machine under one_key clear
keys_hold = refl

pub keys-needed : (map (λ r. tells r.before r.ask) keys ≡ map (λ r. r.gets) keys) × (map (λ r. tells r.other r.ask) keys ≡ map (λ r. r.gets_other) keys)
unfolding machine
keys-needed = (refl, refl)

-- A write under a key of the other's writes mixes them: then the next call need not be the same. 3 is CMD_WRITE.
pub mixes : let s = one (chan 1 133 false false (plays 40 1 124 64 ∷ [])) [] [] [] in
    (one_key s ≡ true) × (clear DESK_A 1 s ≡ false) × (one_key (call s (sends 3 128 [])).next ≡ false)
unfolding machine under one_key clear
mixes = (refl, refl, refl)
