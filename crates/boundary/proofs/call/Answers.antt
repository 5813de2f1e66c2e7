-- `call` meets its contract: the two tests say that there is room, and what was carried is the rest of the promise. Assumes nothing.
use native.Mathlib.Omega.{arith}
use Rattle.boundary.proofs.Laws.{request_made, was_carried}
use Rattle.boundary.proofs.call.Goals as goal

-- the tests have no names here: an edit of one is refused for what it says
pub carry-requires : goal.carry-requires
carry-requires c = (omega arith, omega arith)

pub returns : goal.returns
returns c =
    let a = c.args in
    was_carried (omega arith, omega arith) c.op_of-o.ensures (request_made a.desk a.op a.id a.flags a.map a.prec a.key c.stored.ensures) c.carry.ensures
