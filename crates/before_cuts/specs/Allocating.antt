-- Document 01, the paragraph "ALLOCATE that is granted is done at once": ALLOCATE and OPEN before settling.
-- Assumes nothing.
--
--   enqueue r rs       the waiting requests with one more, at its place
--   waits c s          the call joins the waiting requests and is outstanding
--   allocating l c s   ALLOCATE, by what the look at it says; do_allocate c s looks
--   opening l c s      OPEN, by what the look at it says; do_open c s looks
use Rattle.std.specs.Prelude.{ℕ, suc, Bool, true, false, List, [], ◌∷◌, ◌++◌, ltb, if◌then◌else◌}
use Rattle.before_cuts.specs.Numbers.{nowait, ALLOCFAILED, ADCMD_ALLOCATE, NONE}
use Rattle.before_cuts.specs.State.{Request, State, Outcome, Call, with_waiting, with_opens}
use Rattle.before_cuts.specs.Choosing.{Look, fails, held, grants, look}
use Rattle.before_cuts.specs.Granting.{key_for, aborted_in, granted}
use Rattle.before_cuts.specs.Commands.{done, pending, finished, silent}

-- "Waiting requests stand by precedence, highest first, then by arrival."
unfoldable pub enqueue : Request → List Request → List Request
enqueue r [] = r ∷ []
enqueue r (w ∷ ws) = if ltb w.prec r.prec then r ∷ w ∷ ws else w ∷ enqueue r ws

unfoldable pub waits : Call → State → Outcome
waits c s =
    silent (pending c.key) []
    (with_waiting
    (enqueue (record { id = c.id; key = c.key; prec = c.prec; impatient = nowait c.flags; combos = c.combos }) s.waiting)
    s)

-- "Failing with NOWAIT (flag 64) gives -11. A held one waits even with NOWAIT; so does a failing one without it."
unfoldable pub allocating : Look → Call → State → Outcome
allocating fails c s = if nowait c.flags then finished ADCMD_ALLOCATE c (done ALLOCFAILED 0 c.key NONE) [] s else waits c s
allocating (held m) c s = waits c s
allocating (grants m) c s =
    finished ADCMD_ALLOCATE c (done 0 m (key_for c.key s) NONE) (aborted_in m s.channels) (granted m c.key c.prec s)

unfoldable pub do_allocate : Call → State → Outcome
do_allocate c s = allocating (look c.prec c.combos s.channels) c s

-- "OPEN with combinations acts as ALLOCATE, but failing or held gives -11, replies no lock and leaves the state unchanged.
-- OPEN with none and key 0 gets a new key." #105: "one entry for each successful OPEN", the key that it answered.
unfoldable pub opening : Look → Call → State → Outcome
opening fails c s = silent (done ALLOCFAILED 0 c.key NONE) [] s
opening (held m) c s = silent (done ALLOCFAILED 0 c.key NONE) [] s
opening (grants m) c s =
    silent (done 0 m (key_for c.key s) NONE) (aborted_in m s.channels)
    (with_opens (s.opens ++ key_for c.key s ∷ []) (granted m c.key c.prec s))

unfoldable pub do_open : Call → State → Outcome
do_open c s = opening (look c.prec c.combos s.channels) c s
