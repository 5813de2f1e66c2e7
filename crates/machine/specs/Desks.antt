-- Document 02, #109: two desks share a board; each has half of the request ids.
-- Assumes nothing.
--
--   DESK_A, DESK_B       the desks, 0 and 1; any other number is no desk
--   HALF                 32 ids to a desk
--   desk_of i             the desk of an id
--   foreign c            the call names an id that is not its desk's
--   front_for d ws        the id in front of a queue, as desk d may read it; 255 where there is none or it is the other desk's
--   replies_to d rs       the replies to the ids of desk d, in their order
--   halves rs            A's replies, then B's
--   from d c             the call as desk d makes it
--   Idless o             an operation that names no id, so that no desk can be wrong
use Rattle.std.specs.Prelude.{ℕ, Bool, not, List, [], ◌∷◌, ◌++◌, eqb, ltb, if◌then◌else◌}
use Rattle.machine.specs.Numbers.{NONE}
use Rattle.machine.specs.Lists.{keep}
use Rattle.machine.specs.State.{Write, Reply, Call, Op, OPEN, CLOSE, Event, EVENT}

-- "Desk A has ids 0 to 31, desk B 32 to 63." "in the log an id byte of 32 or more means B"
abbrev pub DESK_A : ℕ
DESK_A = 0

abbrev pub DESK_B : ℕ
DESK_B = 1

abbrev pub HALF : ℕ
HALF = 32

unfoldable pub desk_of : ℕ → ℕ
desk_of i = if ltb i HALF then DESK_A else DESK_B

-- "A command or ABORT naming an id of the other half"
unfoldable pub foreign : Call → Bool
foreign c = not (eqb (desk_of c.id) c.desk)

-- "READ answers 255 for the other desk's write."
unfoldable pub front_for : ℕ → List Write → ℕ
front_for d [] = NONE
front_for d (w ∷ ws) = if eqb (desk_of w.id) d then w.id else NONE

-- "Replies for desk B go into the reply list from record 32 onward, those for A before it"; "Order within each half is that of document
-- 01."
unfoldable pub replies_to : ℕ → List Reply → List Reply
replies_to d rs = keep (λ r. eqb (desk_of r.id) d) rs

-- "A's replies are written first"
unfoldable pub halves : List Reply → List Reply
halves rs = replies_to DESK_A rs ++ replies_to DESK_B rs

-- the same call, whichever desk makes it
abbrev pub from : ℕ → Call → Call
from d c =
    record { op = c.op; desk = d; id = c.id; flags = c.flags; map = c.map; prec = c.prec; key = c.key; combos = c.combos; room = c.room }

-- "OPEN, CLOSE and the event carry no id"
pub data Idless : Op → Type 0 where
  opens : Idless OPEN
  closes : Idless CLOSE
  happens : (v : Event) → Idless (EVENT v)
