-- Document 01, "Settling": which calls the walk follows, each by an example, by computation. The calls stand on a state that is
-- not at rest, which no log reaches: a waiting request could be granted.
-- Assumes nothing.
--
--   Vector, vector      a state, a call and the outcome
--   Computes vs         each call, on its state, gives the outcome beside it
--   plays, cuts, tunes, both   a write (id, cycles, period, volume), with nothing remembered, with FINISH, with PERVOL's period and
--                       volume, with both
--   chan, lock, wait    a channel (key, precedence + 128, locked, stopped, writes), a lock or a WAITCYCLE (id, key, map), a waiting
--                       request (id, key, precedence + 128, NOWAIT, combinations)
--   stands              a state: channels, locks, WAITCYCLEs, waiting requests, open keys, last key
--   asks                a call of its id's desk: operation, id, flags, map, precedence + 128, key, combinations, reply records lent;
--                       asks_from: of any desk
--   says, reply         an answer (outstanding, error, map, key, last byte); a reply (id, command, error, map, key)
--   gets                an outcome: answer, replies, next state
--   unrested, rested    the state of the examples; the same after a walk, and after an OPEN with key 2 and a walk (opened)
--   walks               the table
use Rattle.std.specs.Prelude.{ℕ, ◌≡◌, refl, Bool, true, false, List, [], ◌∷◌, map}
use Rattle.std.proofs.Math.Option.{Option, none, some}
use Rattle.machine.specs.State.{Write, Channel, Lock, Request, State, Call, Reply, Answer, Outcome, Op, OPEN, ABORT, COMMAND, free}
use Rattle.machine.specs.Desks.{desk_of}
use Rattle.machine.specs.Call.{call}
use Rattle.machine.specs.Machine.{machine}

pub record Vector : Type 0 where
  pub before : State
  pub ask : Call
  pub outcome : Outcome

abbrev pub vector : State → Call → Outcome → Vector
vector s c o = record { before = s; ask = c; outcome = o }

abbrev pub Computes : List Vector → Type 0
Computes vs = map (λ v. call v.before v.ask) vs ≡ map (λ v. v.outcome) vs

abbrev pub plays : ℕ → ℕ → ℕ → ℕ → Write
plays i n p v = record { id = i; cycles = n; period = p; volume = v; finish = false; pervol = none }

abbrev pub cuts : ℕ → ℕ → ℕ → ℕ → Write
cuts i n p v = record { id = i; cycles = n; period = p; volume = v; finish = true; pervol = none }

abbrev pub tunes : ℕ → ℕ → ℕ → ℕ → ℕ → ℕ → Write
tunes i n p v q u = record { id = i; cycles = n; period = p; volume = v; finish = false; pervol = some (q, u) }

abbrev pub both : ℕ → ℕ → ℕ → ℕ → ℕ → ℕ → Write
both i n p v q u = record { id = i; cycles = n; period = p; volume = v; finish = true; pervol = some (q, u) }

abbrev pub chan : ℕ → ℕ → Bool → Bool → List Write → Channel
chan k p l s ws = record { key = k; prec = p; locked = l; stopped = s; writes = ws }

abbrev pub lock : ℕ → ℕ → ℕ → Lock
lock i k m = record { id = i; key = k; map = m }

abbrev pub wait : ℕ → ℕ → ℕ → Bool → List ℕ → Request
wait i k p n ms = record { id = i; key = k; prec = p; impatient = n; combos = ms }

abbrev pub stands : List Channel → List Lock → List Lock → List Request → List ℕ → ℕ → State
stands cs ls vs ws os k = record { channels = cs; locks = ls; waiters = vs; waiting = ws; opens = os; last = k }

abbrev pub asks_from : ℕ → Op → ℕ → ℕ → ℕ → ℕ → ℕ → List ℕ → ℕ → Call
asks_from d o i f m p k ms n = record { op = o; desk = d; id = i; flags = f; map = m; prec = p; key = k; combos = ms; room = n }

abbrev pub asks : Op → ℕ → ℕ → ℕ → ℕ → ℕ → List ℕ → ℕ → Call
asks o i f m p k ms n = asks_from (desk_of i) o i f m p k ms n

abbrev pub reply : ℕ → ℕ → ℕ → ℕ → ℕ → Reply
reply i n e m k = record { id = i; command = n; error = e; map = m; key = k }

abbrev pub says : Bool → ℕ → ℕ → ℕ → ℕ → Answer
says o e m k x = record { outstanding = o; error = e; map = m; key = k; extra = x }

abbrev pub gets : Answer → List Reply → State → Outcome
gets a rs s = record { answer = a; replies = rs; next = s }

-- channel 0 is taken at precedence 127; request 60 waits for channels 2 and 3, which are free
abbrev pub unrested : State
unrested = stands (chan 1 255 false false [] ∷ free ∷ free ∷ free ∷ []) [] [] (wait 60 0 128 false (12 ∷ []) ∷ []) (1 ∷ []) 1

abbrev pub rested : State
rested = stands (chan 1 255 false false [] ∷ free ∷ chan 2 128 false false [] ∷ chan 2 128 false false [] ∷ []) [] [] [] (1 ∷ []) 2

abbrev pub opened : State
opened = stands (chan 1 255 false false [] ∷ free ∷ chan 3 128 false false [] ∷ chan 3 128 false false [] ∷ []) [] [] [] (1 ∷ 2 ∷ []) 3

-- "After every call, except one answered 1 to 5, -1, -3, -4 or -5 and an OPEN answered -11, walk from the head."
abbrev pub walks : List Vector
walks =
    -- ABORT of an idle id: not aborted, and the walk follows
    vector unrested (asks ABORT 7 1 0 128 1 [] 64) (gets (says false 0 0 1 0) (reply 60 32 0 12 2 ∷ []) rested)
    -- ALLOCATE with NOWAIT is answered -11, and the walk follows
    ∷ vector unrested (asks (COMMAND 32) 7 65 0 128 1 (1 ∷ []) 64) (gets (says false 245 0 1 255) (reply 60 32 0 12 2 ∷ []) rested)
    -- OPEN is answered -11, and no walk follows
    ∷ vector unrested (asks OPEN 7 0 0 128 1 (1 ∷ []) 64) (gets (says false 245 0 1 255) [] unrested)
    -- OPEN with key 2, which is entered before the walk: the request gets key 3
    ∷ vector unrested (asks OPEN 7 0 0 128 2 [] 64) (gets (says false 0 0 2 255) (reply 60 32 0 12 3 ∷ []) opened)
    -- what a walk has said stands before "its aborted writes, then the grant": 50 is dropped, then 51 takes channel 1 with write 5
    ∷ vector
    (stands (chan 1 255 false false [] ∷ chan 1 128 false false (plays 5 1 124 64 ∷ []) ∷ free ∷ free ∷ [])
    [] [] (wait 50 0 140 true (1 ∷ []) ∷ wait 51 0 139 false (2 ∷ []) ∷ []) (1 ∷ []) 1)
    (asks ABORT 7 1 0 128 1 [] 64)
    (gets (says false 0 0 1 0) (reply 50 32 245 0 0 ∷ reply 5 3 254 0 1 ∷ reply 51 32 0 2 2 ∷ [])
    (stands (chan 1 255 false false [] ∷ chan 2 139 false false [] ∷ free ∷ free ∷ []) [] [] [] (1 ∷ []) 2))
    ∷ []

pub walks_follow : Computes walks
unfolding machine
walks_follow = refl
