-- Document 01, "Sound means", and document 02 where it amends it: the edges, by computation. Each state that is not sound differs in one
-- number, mark or place from one that is.
-- Assumes nothing.
--
--   on, writing, locking, cycling, asking, asking8, keyed    states with one part given: a channel, its writes, locks, WAITCYCLEs, waiting
--                                                            requests, open keys and the last key
--   edges                                                    the table: a state, and whether it is sound
use Rattle.std.specs.Prelude.{ℕ, ◌≡◌, refl, Bool, true, false, List, [], ◌∷◌, map, replicate}
use Rattle.machine.specs.State.{Write, Channel, Lock, Request, State, free, frees, fresh_on}
use Rattle.machine.specs.Sound.{sound}
use Rattle.machine.specs.Walks.{plays, cuts, tunes, chan, lock, wait, stands}
use Rattle.machine.specs.Machine.{machine}

-- a channel, beside three that are free
abbrev pub on : Channel → State
on c = stands (c ∷ free ∷ free ∷ free ∷ []) [] [] [] [] 0

-- its writes
abbrev pub writing : List Write → State
writing ws = on (chan 9 128 false false ws)

-- locks, where the second and the third channel have key 9, and the third alone is locked
abbrev pub locking : List Lock → State
locking ls = stands (free ∷ chan 9 128 false false [] ∷ chan 9 128 true false [] ∷ free ∷ []) ls [] [] [] 0

-- WAITCYCLEs, where all but the first channel have key 9, and the last two a write
abbrev pub cycling : List Lock → State
cycling vs =
    stands
    (free ∷ chan 9 128 false false [] ∷ chan 9 128 false false (plays 2 1 124 64 ∷ [])
    ∷ chan 9 128 false false (plays 3 1 124 64 ∷ []) ∷ [])
    [] vs [] [] 0

-- waiting requests, on four channels and on eight
abbrev pub asking : List Request → State
asking rs = stands (free ∷ free ∷ free ∷ free ∷ []) [] [] rs [] 0

abbrev pub asking8 : List Request → State
asking8 rs = stands (replicate 8 free) [] [] rs [] 0

-- open keys and the last key
abbrev pub keyed : List ℕ → ℕ → State
keyed ks k = stands (free ∷ free ∷ free ∷ free ∷ []) [] [] [] ks k

abbrev pub edges : List (State × Bool)
edges =
    -- one channel to eight
    (fresh_on 0, false) ∷ (fresh_on 1, true) ∷ (fresh_on 8, true) ∷ (fresh_on 9, false)
    -- "free channels as described": no precedence, no marks, no writes
    ∷ (on (chan 0 129 false false []), false)
    ∷ (on (chan 0 127 false false []), false)
    ∷ (on (chan 0 128 true false []), false)
    ∷ (on (chan 0 128 false true []), false)
    ∷ (on (chan 0 128 false false (plays 2 1 124 64 ∷ [])), false)
    -- an allocated channel: key 1 to 65,535, precedence to 127
    ∷ (on (chan 1 0 true true []), true)
    ∷ (on (chan 65535 255 true true []), true)
    ∷ (on (chan 65536 255 true true []), false)
    ∷ (on (chan 65535 256 true true []), false)
    -- #101: "stored numbers are in range"; 0 cycles are endless
    ∷ (writing (plays 2 0 124 0 ∷ []), true)
    ∷ (writing (plays 2 65535 65536 64 ∷ []), true)
    ∷ (writing (plays 2 65536 65536 64 ∷ []), false)
    ∷ (writing (plays 2 1 123 64 ∷ []), false)
    ∷ (writing (plays 2 1 65537 64 ∷ []), false)
    ∷ (writing (plays 2 1 124 65 ∷ []), false)
    ∷ (writing (tunes 2 1 124 64 65536 64 ∷ []), true)
    ∷ (writing (tunes 2 1 124 64 123 64 ∷ []), false)
    ∷ (writing (tunes 2 1 124 64 65537 64 ∷ []), false)
    ∷ (writing (tunes 2 1 124 64 124 65 ∷ []), false)
    ∷ (writing (plays 2 1 124 64 ∷ plays 3 1 123 64 ∷ []), false)
    -- #101: "nothing is remembered without a write": with the front one alone
    ∷ (writing (cuts 2 1 124 64 ∷ plays 3 1 124 64 ∷ []), true)
    ∷ (writing (plays 2 1 124 64 ∷ cuts 3 1 124 64 ∷ []), false)
    ∷ (writing (plays 2 1 124 64 ∷ tunes 3 1 124 64 124 64 ∷ []), false)
    -- "each lock's map nonempty and naming only locked channels", on the board, "with the key of its channels"
    ∷ (locking (lock 5 9 4 ∷ []), true)
    ∷ (locking (lock 5 9 0 ∷ []), false)
    ∷ (locking (lock 5 9 6 ∷ []), false)
    ∷ (locking (lock 5 9 20 ∷ []), false)
    ∷ (locking (lock 5 8 4 ∷ []), false)
    -- #101: a WAITCYCLE has one bit, of a channel with its key and a write
    ∷ (cycling (lock 6 9 4 ∷ []), true)
    ∷ (cycling (lock 6 9 0 ∷ []), false)
    ∷ (cycling (lock 6 9 2 ∷ []), false)
    ∷ (cycling (lock 6 9 12 ∷ []), false)
    ∷ (cycling (lock 6 9 20 ∷ []), false)
    ∷ (cycling (lock 6 9 16 ∷ []), false)
    ∷ (cycling (lock 6 8 4 ∷ []), false)
    -- "waiting requests with 1 to 16 combinations, each at most 15"; on eight channels at most 255
    ∷ (asking (wait 7 65535 255 true (replicate 16 15) ∷ []), true)
    ∷ (asking (wait 7 0 0 false (0 ∷ []) ∷ []), true)
    ∷ (asking (wait 7 0 0 false [] ∷ []), false)
    ∷ (asking (wait 7 65535 255 true (replicate 17 15) ∷ []), false)
    ∷ (asking (wait 7 65535 255 true (1 ∷ 16 ∷ []) ∷ []), false)
    ∷ (asking (wait 7 65536 255 true (1 ∷ []) ∷ []), false)
    ∷ (asking (wait 7 65535 256 true (1 ∷ []) ∷ []), false)
    ∷ (asking8 (wait 7 0 0 false (255 ∷ []) ∷ []), true)
    ∷ (asking8 (wait 7 0 0 false (256 ∷ []) ∷ []), false)
    -- "in the order given below": highest precedence first
    ∷ (asking (wait 7 0 130 false (1 ∷ []) ∷ wait 8 0 130 false (1 ∷ []) ∷ wait 9 0 129 false (1 ∷ []) ∷ []), true)
    ∷ (asking (wait 7 0 130 false (1 ∷ []) ∷ wait 8 0 129 false (1 ∷ []) ∷ wait 9 0 130 false (1 ∷ []) ∷ []), false)
    -- "ids 0 to 63"
    ∷ (writing (plays 0 1 124 64 ∷ plays 63 1 124 64 ∷ []), true)
    ∷ (writing (plays 0 1 124 64 ∷ plays 64 1 124 64 ∷ []), false)
    ∷ (locking (lock 63 9 4 ∷ []), true)
    ∷ (locking (lock 64 9 4 ∷ []), false)
    ∷ (cycling (lock 63 9 4 ∷ []), true)
    ∷ (cycling (lock 64 9 4 ∷ []), false)
    ∷ (asking (wait 63 0 0 false (0 ∷ []) ∷ []), true)
    ∷ (asking (wait 64 0 0 false (0 ∷ []) ∷ []), false)
    -- "each outstanding id in exactly one place"
    ∷ (writing (plays 2 1 124 64 ∷ plays 2 1 124 64 ∷ []), false)
    ∷ (cycling (lock 2 9 4 ∷ []), false)
    ∷ (locking (lock 5 9 4 ∷ lock 5 9 4 ∷ []), false)
    ∷ (asking (wait 7 0 0 false (0 ∷ []) ∷ wait 7 0 0 false (0 ∷ []) ∷ []), false)
    -- #105: "at most 32 entries, none 0"; the last key is 0 to 65,535
    ∷ (keyed (replicate 32 65535) 65535, true)
    ∷ (keyed (replicate 33 65535) 65535, false)
    ∷ (keyed (1 ∷ 0 ∷ []) 0, false)
    ∷ (keyed (65536 ∷ []) 0, false)
    ∷ (keyed [] 65536, false)
    ∷ []

pub edges-sound : map (λ e. sound e.0) edges ≡ map (λ e. e.1) edges
unfolding machine frees
edges-sound = refl
