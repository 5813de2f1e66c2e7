-- The assurance is about something: from the fresh device of four channels a run in which locks are told, requests are held and fail,
-- one call is refused, and settling grants two; and the same calls on eight channels.
-- Assumes nothing.
--
--   run          the calls
--   after k n    the state after the first k of them, on n channels
use Prim.Native.Nat.{ℕ}
use mathlib.Core.Path.{◌≡◌, refl}
use mathlib.Core.Bool.{true, false}
use mathlib.Core.List.{List, [], ◌∷◌, map}
use lib.ListN.{take}
use Rattle.machine.specs.State.{State, Call, OPEN, COMMAND, free, fresh_on, frees}
use Rattle.machine.specs.Machine.{machine}
use Rattle.machine.specs.Call.{call}
use Rattle.machine.specs.Walks.{chan, lock, wait, stands, asks, reply}
use Rattle.display.specs.Runs.{after_calls}
use Rattle.nothing_left.specs.NothingLeft.{finds, NothingLeft, left}
use Rattle.nothing_left.proofs.NothingLeft.{nothing_left_standing}
use Rattle.machine.specs.Choosing.{fails, held}

abbrev pub run : List Call
run =
    -- OPEN gets key 1, and ALLOCATE channels 0 and 1 at 10
    asks OPEN 0 0 0 128 0 [] 64
    ∷ asks (COMMAND 32) 5 1 0 138 1 (3 ∷ []) 64
    -- LOCK 6 of channel 0, LOCK 8 of channel 1
    ∷ asks (COMMAND 13) 6 0 1 128 1 [] 64
    ∷ asks (COMMAND 13) 8 0 2 128 1 [] 64
    -- ALLOCATE 7 with NOWAIT, at 20 for channel 0: held, and lock 6 is told
    ∷ asks (COMMAND 32) 7 64 0 148 0 (1 ∷ []) 64
    -- ALLOCATE 9 at 0 for channel 1 fails, and waits
    ∷ asks (COMMAND 32) 9 0 0 128 0 (2 ∷ []) 64
    -- READ with id 64 is refused
    ∷ asks (COMMAND 2) 64 0 1 128 1 [] 64
    -- FREE of channels 0 and 1: 7 and 9 are granted
    ∷ asks (COMMAND 9) 10 1 3 128 1 [] 64
    ∷ []

abbrev pub after : ℕ → ℕ → State
after k n = after_calls (fresh_on n) (take k run)

abbrev standing : ℕ → State
standing k =
    stands (chan 1 138 true false [] ∷ chan 1 138 true false [] ∷ free ∷ free ∷ frees k) (lock 8 1 2 ∷ []) []
    (wait 7 0 148 true (1 ∷ []) ∷ wait 9 0 128 false (2 ∷ []) ∷ []) (1 ∷ []) 1

-- behind the refused call two wait, one held with NOWAIT and one failing, and a lock is outstanding
pub waits : (after 7 4 ≡ standing 0) × (map (finds (after 7 4)) (after 7 4).waiting ≡ held 1 ∷ fails ∷ [])
unfolding machine left after_calls frees
waits = (refl, refl)

-- the lock over channel 0 was told, and the two are granted in the end
pub told : ((call (after 4 4) (asks (COMMAND 32) 7 64 0 148 0 (1 ∷ []) 64)).replies ≡ reply 6 13 244 1 1 ∷ [])
    × ((call (after 7 4) (asks (COMMAND 9) 10 1 3 128 1 [] 64)).replies ≡ reply 8 13 0 0 1 ∷ reply 7 32 0 1 2 ∷ reply 9 32 0 2 3 ∷ [])
    × (after 8 4 ≡ stands (chan 2 148 false false [] ∷ chan 3 128 false false [] ∷ free ∷ free ∷ []) [] [] [] (1 ∷ []) 3)
unfolding machine after_calls frees
told = (refl, refl, refl)

pub eight-waits : after 7 8 ≡ standing 4
unfolding machine after_calls frees
eight-waits = refl

-- and nothing is left standing after any of them, on either board
pub left_after : (k : ℕ) → NothingLeft (after k 4) × NothingLeft (after k 8)
left_after k = (nothing_left_standing 4 (take k run), nothing_left_standing 8 (take k run))
