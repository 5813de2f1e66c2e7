-- What each command leaves alone, by computation: one channel of a board of eight has every mark, writes, a lock and one who waits for a
-- cycle, and the whole state after each command is compared.
-- Assumes nothing.
--
--   two, four          its writes: the front one remembers a FINISH and a PERVOL
--   eighth p b ws      its eighth channel, with precedence p, stop mark b and the writes ws
--   board c ls vs ws   the board with that channel, locks, WAITCYCLEs and waiting requests
--   stood b            where all begins, stopped or not
--   kept               the table
use Rattle.std.specs.Prelude.{ℕ, ◌≡◌, refl, Bool, true, false, List, [], ◌∷◌}
use Rattle.machine.specs.State.{Write, Channel, Lock, Request, State, CLOSE, EVENT, CYCLE_ENDED, GAVE_UP, COMMAND, free}
use Rattle.machine.specs.Walks.{Vector, vector, Computes, plays, both, chan, lock, wait, stands, asks, reply, says, gets}
use Rattle.machine.specs.Machine.{machine}

abbrev pub two : Write
two = both 2 3 200 10 300 20

abbrev pub four : Write
four = plays 4 1 124 64

abbrev pub eighth : ℕ → Bool → List Write → Channel
eighth p b ws = chan 1 p true b ws

abbrev pub board : Channel → List Lock → List Lock → List Request → State
board c ls vs ws =
    stands (chan 1 133 false false [] ∷ free ∷ free ∷ free ∷ free ∷ free ∷ free ∷ c ∷ []) ls vs ws (1 ∷ []) 1

abbrev pub stood : Bool → State
stood b = board (eighth 133 b (two ∷ four ∷ [])) (lock 5 1 128 ∷ []) (lock 6 1 128 ∷ []) []

abbrev pub kept : List Vector
kept =
    -- STOP and START: the stop mark
    vector (stood false) (asks (COMMAND 6) 9 1 128 128 1 [] 64) (gets (says false 0 128 1 255) [] (stood true))
    ∷ vector (stood true) (asks (COMMAND 7) 9 1 128 128 1 [] 64) (gets (says false 0 128 1 255) [] (stood false))
    -- SETPREC to 12: the precedence
    ∷ vector (stood true) (asks (COMMAND 10) 9 1 128 140 1 [] 64)
    (gets (says false 0 128 1 255) [] (board (eighth 140 true (two ∷ four ∷ [])) (lock 5 1 128 ∷ []) (lock 6 1 128 ∷ []) []))
    -- UPDATE and CLEAR: nothing
    ∷ vector (stood true) (asks (COMMAND 4) 9 1 128 128 1 [] 64) (gets (says false 0 128 1 255) [] (stood true))
    ∷ vector (stood true) (asks (COMMAND 5) 9 1 128 128 1 [] 64) (gets (says false 0 128 1 255) [] (stood true))
    -- FLUSH: the writes, and who waits for them; RESET: the stop mark too
    ∷ vector (stood true) (asks (COMMAND 8) 9 1 128 128 1 [] 64)
    (gets (says false 0 128 1 255) (reply 2 3 254 0 1 ∷ reply 4 3 254 0 1 ∷ reply 6 14 254 0 1 ∷ [])
    (board (eighth 133 true []) (lock 5 1 128 ∷ []) [] []))
    ∷ vector (stood true) (asks (COMMAND 1) 9 1 128 128 1 [] 64)
    (gets (says false 0 128 1 255) (reply 2 3 254 0 1 ∷ reply 4 3 254 0 1 ∷ reply 6 14 254 0 1 ∷ [])
    (board (eighth 133 false []) (lock 5 1 128 ∷ []) [] []))
    -- FREE: all of it
    ∷ vector (stood true) (asks (COMMAND 9) 9 1 128 128 1 [] 64)
    (gets (says false 0 128 1 255) (reply 2 3 254 0 1 ∷ reply 4 3 254 0 1 ∷ reply 6 14 254 0 1 ∷ reply 5 13 0 0 1 ∷ [])
    (board free [] [] []))
    -- FREE of the first channel: the lock over both keeps the eighth
    ∷ vector
    (stands (chan 1 133 true false [] ∷ free ∷ free ∷ free ∷ free ∷ free ∷ free ∷ eighth 133 false [] ∷ []) (lock 5 1 129 ∷ []) [] [] (1 ∷ []) 1)
    (asks (COMMAND 9) 9 1 1 128 1 [] 64)
    (gets (says false 0 1 1 255) []
    (stands (free ∷ free ∷ free ∷ free ∷ free ∷ free ∷ free ∷ eighth 133 false [] ∷ []) (lock 5 1 128 ∷ []) [] [] (1 ∷ []) 1))
    -- CLOSE: all of it on every channel with the key, and its entry
    ∷ vector (stood true) (asks CLOSE 9 1 0 128 1 [] 64)
    (gets (says false 0 0 1 255) (reply 2 3 254 0 1 ∷ reply 4 3 254 0 1 ∷ reply 6 14 254 0 1 ∷ reply 5 13 0 0 1 ∷ [])
    (stands (free ∷ free ∷ free ∷ free ∷ free ∷ free ∷ free ∷ free ∷ []) [] [] [] [] 1))
    -- LOCK, WRITE and WAITCYCLE: one more, behind the others
    ∷ vector (stood true) (asks (COMMAND 13) 9 1 128 128 1 [] 64)
    (gets (says true 0 0 1 255) [] (board (eighth 133 true (two ∷ four ∷ [])) (lock 5 1 128 ∷ lock 9 1 128 ∷ []) (lock 6 1 128 ∷ []) []))
    ∷ vector (stood true) (asks (COMMAND 3) 9 1 128 128 1 [] 64)
    (gets (says true 0 0 1 255) []
    (board (eighth 133 true (two ∷ four ∷ plays 9 1 124 64 ∷ [])) (lock 5 1 128 ∷ []) (lock 6 1 128 ∷ []) []))
    ∷ vector (stood false) (asks (COMMAND 14) 9 1 128 128 1 [] 64)
    (gets (says true 0 0 1 255) [] (board (eighth 133 false (two ∷ four ∷ [])) (lock 5 1 128 ∷ []) (lock 6 1 128 ∷ lock 9 1 128 ∷ []) []))
    -- READ: nothing; the eighth channel's bit, and the front write unless it is stopped
    ∷ vector (stood false) (asks (COMMAND 2) 9 1 128 128 1 [] 64) (gets (says false 0 128 1 2) [] (stood false))
    ∷ vector (stood true) (asks (COMMAND 2) 9 1 128 128 1 [] 64) (gets (says false 0 128 1 255) [] (stood true))
    -- PERVOL: period 400 and volume 32 of the write in progress, at once or remembered; of a stopped one nothing
    ∷ vector (stood false) (asks (COMMAND 12) 9 1 128 128 1 (0 ∷ 0 ∷ 0 ∷ 1 ∷ 144 ∷ 32 ∷ []) 64)
    (gets (says false 0 128 1 255) []
    (board (eighth 133 false (both 2 3 400 32 300 20 ∷ four ∷ [])) (lock 5 1 128 ∷ []) (lock 6 1 128 ∷ []) []))
    ∷ vector (stood false) (asks (COMMAND 12) 9 33 128 128 1 (0 ∷ 0 ∷ 0 ∷ 1 ∷ 144 ∷ 32 ∷ []) 64)
    (gets (says false 0 128 1 255) []
    (board (eighth 133 false (both 2 3 200 10 400 32 ∷ four ∷ [])) (lock 5 1 128 ∷ []) (lock 6 1 128 ∷ []) []))
    ∷ vector (stood true) (asks (COMMAND 12) 9 1 128 128 1 (0 ∷ 0 ∷ 0 ∷ 1 ∷ 144 ∷ 32 ∷ []) 64)
    (gets (says false 0 128 1 255) [] (stood true))
    -- FINISH and the events: the front write, and who waits for its cycle
    ∷ vector (stood false) (asks (COMMAND 11) 9 1 128 128 1 [] 64)
    (gets (says false 0 128 1 255) (reply 2 3 254 0 1 ∷ reply 6 14 254 0 1 ∷ [])
    (board (eighth 133 false (four ∷ [])) (lock 5 1 128 ∷ []) [] []))
    ∷ vector (stood false) (asks (EVENT CYCLE_ENDED) 9 1 128 128 1 [] 64)
    (gets (says false 0 128 1 255) (reply 6 14 0 128 1 ∷ reply 2 3 254 0 1 ∷ [])
    (board (eighth 133 false (four ∷ [])) (lock 5 1 128 ∷ []) [] []))
    ∷ vector (stood false) (asks (EVENT GAVE_UP) 9 1 128 128 1 [] 64)
    (gets (says false 0 128 1 255) (reply 2 3 254 0 1 ∷ reply 6 14 254 0 1 ∷ [])
    (board (eighth 133 false (four ∷ [])) (lock 5 1 128 ∷ []) [] []))
    -- ALLOCATE at 12 that is held: the lock ends, and the channel stays locked
    ∷ vector (stood true) (asks (COMMAND 32) 9 1 0 140 0 (128 ∷ []) 64)
    (gets (says true 0 0 0 255) (reply 5 13 244 128 1 ∷ [])
    (board (eighth 133 true (two ∷ four ∷ [])) [] (lock 6 1 128 ∷ []) (wait 9 0 140 false (128 ∷ []) ∷ [])))
    ∷ []

pub kept_kept : Computes kept
unfolding machine
kept_kept = refl
