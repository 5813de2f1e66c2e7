-- `room` meets its contract: the test is the promise's. Assumes nothing.
use native.Mathlib.Omega.{arith}
use Rattle.desk_call.proofs.Laws.{room_short, room_long}
use Rattle.desk_call.proofs.room.Goals as goal

pub returns-then-n-lt-REPLIES_SIZE : goal.returns-then-n-lt-REPLIES_SIZE
returns-then-n-lt-REPLIES_SIZE c = room_short c.args.n (omega arith)

pub returns-else-n-lt-REPLIES_SIZE : goal.returns-else-n-lt-REPLIES_SIZE
returns-else-n-lt-REPLIES_SIZE c = room_long c.args.n (omega arith)
