-- Document 02, #110: "Report too how many waiting requests the last settling looked at. That number is the looks of the written rule".
-- A look is each request that a walk reaches, one that is granted or dropped too; after a grant the next walk begins at the head.
-- proofs/Looks.antt proves the bound.
-- Assumes nothing.
--
--   reached cs rs      how many of the requests rs a walk reaches: each, as far as the first that is granted
--   looks_in n s        those of at most n walks; `look_on` grants and goes on at the head
--   looks s            those of settling
--   acting o c s       what an accepted call does before settling
--   looks_after o u k   the looks of the last settling, after a call that came to u before it settled: k is the number before
--   looked s c k       the same after any call
--   triangle w         1 + 2 + .. + w: at most so many looks, where w requests wait
--   ending l, stops cs r   the look is a grant, so that the walk ends there; so it is of the request r
--   further front rest s   the looks that are left in the middle of a walk
use Rattle.std.specs.Prelude.{ℕ, zero, suc, ◌+◌, List, [], ◌∷◌, Bool, true, false, eqb, length, if◌then◌else◌}
use Rattle.widening.specs.machine.Numbers.{ALLOCFAILED}
use Rattle.widening.specs.machine.State.{Channel, Request, State, Outcome, Call, Op, OPEN, CLOSE, ABORT, EVENT, COMMAND}
use Rattle.widening.specs.machine.Choosing.{Look, fails, held, grants, look}
use Rattle.widening.specs.machine.Granting.{granted}
use Rattle.widening.specs.machine.Commands.{do_close, do_abort, do_event}
use Rattle.widening.specs.machine.Allocating.{do_open}
use Rattle.widening.specs.machine.Settling.{Found, nobody, somebody, Walk, walk, walked}
use Rattle.widening.specs.machine.Kinds.{kind}
use Rattle.widening.specs.machine.Refusals.{Refusal, accepted, refused, refusal}
use Rattle.widening.specs.machine.Call.{perform}
use Rattle.widening.specs.machine_laws.Looking.{fronted}

-- those behind a request are reached unless it is granted
unfoldable pub beyond : Look → ℕ → ℕ
beyond fails n = n
beyond (held m) n = n
beyond (grants m) n = 0

unfoldable pub reached : List Channel → List Request → ℕ
reached cs [] = 0
reached cs (r ∷ rs) = suc (beyond (look r.prec r.combos cs) (reached cs rs))

-- "Granted: grant, reply, remove, and start again at the head. A walk to the end without a grant finishes."
unfoldable pub look_on : Found → Walk → State → (State → ℕ) → ℕ
look_on nobody w s again = 0
look_on (somebody r m) w s again = again (granted m r.key r.prec (walked w s))

unfoldable pub looks_in : ℕ → State → ℕ
looks_in zero s = 0
looks_in (suc n) s =
    let w = walk s.channels s.waiting s.locks in
    reached s.channels s.waiting + look_on w.found w s (looks_in n)

-- as many walks as `settle` has
unfoldable pub looks : State → ℕ
looks s = looks_in (suc (length s.waiting)) s

unfoldable pub acting : Op → Call → State → Outcome
acting OPEN c s = do_open c s
acting CLOSE c s = do_close c s
acting ABORT c s = do_abort c s
acting (EVENT e) c s = do_event e c s
acting (COMMAND n) c s = perform (kind n) c s

-- a call after which nothing settles leaves the number: "except .. an OPEN answered -11"
unfoldable pub looks_after : Op → Outcome → ℕ → ℕ
looks_after OPEN o k = if eqb o.answer.error ALLOCFAILED then k else looks o.next
looks_after CLOSE o k = looks o.next
looks_after ABORT o k = looks o.next
looks_after (EVENT e) o k = looks o.next
looks_after (COMMAND n) o k = looks o.next

-- "except one answered 1 to 5, -1, -3, -4 or -5"
unfoldable pub looked_by : Refusal → Call → State → ℕ → ℕ
looked_by accepted c s k = looks_after c.op (acting c.op c s) k
looked_by (refused e) c s k = k

unfoldable pub looked : State → Call → ℕ → ℕ
looked s c k = looked_by (refusal c.op c s) c s k

-- each walk but the last grants one, and the next has one request fewer
unfoldable pub triangle : ℕ → ℕ
triangle zero = 0
triangle (suc w) = suc w + triangle w

-- after a grant the walk starts again at the head
unfoldable pub ending : Look → Bool
ending fails = false
ending (held m) = false
ending (grants m) = true

abbrev pub stops : List Channel → Request → Bool
stops cs r = ending (look r.prec r.combos cs)

-- of the requests in front each was looked at and stays
unfoldable pub further : List Request → List Request → State → ℕ
further front rest s =
    let w = walk s.channels rest s.locks in
    reached s.channels rest + look_on w.found (fronted front w) s looks
