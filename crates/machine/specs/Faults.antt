-- Document 01, "Numbers a caller can get back": the order of refusals, by computation. Each call meets a step's fault and every later one
-- that it can have at once, and is answered with the first's number. proofs/Steps.antt has the same of every call.
-- Assumes nothing.
--
--   broken         a state that is not sound: a free channel is stopped; no key is open
--   shut, ajar     write 2 is outstanding and no key is open; the same with key 9 open
--   full           32 keys are open
--   many           seventeen combinations, the last of them above 255
--   faults         the table: a state, a call and the error answered
use Rattle.std.specs.Prelude.{ℕ, ◌≡◌, refl, true, false, List, [], ◌∷◌, ◌++◌, map, replicate}
use Rattle.machine.specs.State.{State, Call, OPEN, CLOSE, ABORT, EVENT, CYCLE_ENDED, GAVE_UP, COMMAND, free}
use Rattle.machine.specs.Call.{call}
use Rattle.machine.specs.Walks.{plays, chan, stands, asks_from}
use Rattle.machine.specs.Machine.{machine}

abbrev pub broken : State
broken = stands (chan 0 128 false true [] ∷ free ∷ free ∷ free ∷ []) [] [] [] [] 0

abbrev pub shut : State
shut = stands (chan 9 128 false false (plays 2 1 124 64 ∷ []) ∷ free ∷ free ∷ free ∷ []) [] [] [] [] 0

abbrev pub ajar : State
ajar = stands (chan 9 128 false false (plays 2 1 124 64 ∷ []) ∷ free ∷ free ∷ free ∷ []) [] [] [] (9 ∷ []) 0

abbrev pub full : State
full = stands (chan 9 255 false false [] ∷ free ∷ free ∷ free ∷ []) [] [] [] (replicate 32 9) 0

abbrev pub many : List ℕ
many = replicate 16 1 ++ 256 ∷ []

abbrev pub faults : List (State × Call × ℕ)
faults =
    -- OPEN: 1, 5, -4, -5, -1, then the allocation rule
    (broken, asks_from 0 OPEN 64 0 256 128 9 many 63, 1)
    ∷ (full, asks_from 0 OPEN 64 0 256 128 9 many 63, 5)
    ∷ (full, asks_from 0 OPEN 64 0 256 128 9 many 64, 252)
    ∷ (full, asks_from 0 OPEN 64 0 256 128 9 (16 ∷ []) 64, 251)
    ∷ (full, asks_from 0 OPEN 64 0 256 128 9 (1 ∷ []) 64, 255)
    ∷ (ajar, asks_from 0 OPEN 64 0 256 128 9 (1 ∷ []) 64, 245)
    -- CLOSE: 1, 5, 2
    ∷ (broken, asks_from 0 CLOSE 64 0 256 128 7 many 63, 1)
    ∷ (ajar, asks_from 0 CLOSE 64 0 256 128 7 many 63, 5)
    ∷ (ajar, asks_from 0 CLOSE 64 0 256 128 7 many 64, 2)
    ∷ (ajar, asks_from 0 CLOSE 64 0 256 128 9 many 64, 0)
    -- ABORT: 1, 5, 4, 8
    ∷ (broken, asks_from 0 ABORT 64 0 256 128 9 many 63, 1)
    ∷ (shut, asks_from 0 ABORT 64 0 256 128 9 many 63, 5)
    ∷ (shut, asks_from 0 ABORT 64 0 256 128 9 many 64, 4)
    ∷ (shut, asks_from 1 ABORT 2 0 256 128 9 many 64, 8)
    ∷ (shut, asks_from 0 ABORT 2 0 256 128 9 many 64, 0)
    -- the events: 1, 5, -5
    ∷ (broken, asks_from 0 (EVENT CYCLE_ENDED) 64 0 16 128 9 many 63, 1)
    ∷ (shut, asks_from 0 (EVENT CYCLE_ENDED) 64 0 16 128 9 many 63, 5)
    ∷ (shut, asks_from 0 (EVENT GAVE_UP) 64 0 16 128 9 many 64, 251)
    ∷ (shut, asks_from 0 (EVENT GAVE_UP) 64 0 15 128 9 many 64, 0)
    -- a command: 1, 5, 4, 8, 3, 2, -3, -4, -5, -4, then the key
    ∷ (broken, asks_from 0 (COMMAND 15) 64 0 16 128 7 many 63, 1)
    ∷ (shut, asks_from 0 (COMMAND 15) 64 0 16 128 7 many 63, 5)
    ∷ (shut, asks_from 0 (COMMAND 15) 64 0 16 128 7 many 64, 4)
    ∷ (shut, asks_from 1 (COMMAND 15) 2 0 16 128 7 many 64, 8)
    ∷ (shut, asks_from 0 (COMMAND 15) 2 0 16 128 7 many 64, 3)
    ∷ (shut, asks_from 0 (COMMAND 15) 3 0 16 128 7 many 64, 2)
    ∷ (ajar, asks_from 0 (COMMAND 15) 3 0 16 128 7 many 64, 253)
    ∷ (ajar, asks_from 0 (COMMAND 32) 3 64 16 128 7 many 64, 252)
    ∷ (ajar, asks_from 0 (COMMAND 32) 3 64 16 128 7 (1 ∷ 16 ∷ []) 64, 251)
    ∷ (ajar, asks_from 0 (COMMAND 32) 3 64 16 128 7 (1 ∷ []) 64, 245)
    ∷ (ajar, asks_from 0 (COMMAND 3) 3 0 16 128 7 many 64, 251)
    ∷ (ajar, asks_from 0 (COMMAND 3) 3 0 1 128 7 many 64, 252)
    ∷ (ajar, asks_from 0 (COMMAND 3) 3 0 1 128 7 [] 64, 246)
    ∷ (ajar, asks_from 0 (COMMAND 7) 3 0 16 128 7 many 64, 251)
    ∷ (ajar, asks_from 0 (COMMAND 7) 3 0 1 128 7 many 64, 246)
    ∷ []

pub faults_in_order : map (λ f. (call f.0 f.1).answer.error) faults ≡ map (λ f. f.2) faults
unfolding machine
faults_in_order = refl
