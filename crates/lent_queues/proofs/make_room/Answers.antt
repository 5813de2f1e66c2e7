-- `make_room` meets its contract: what the turn brings to `lo` is written over. Assumes nothing.
use Rattle.lent_queues.proofs.Moves.{spread-turned}
use Rattle.lent_queues.proofs.make_room.Goals as goal

pub returns : goal.returns
returns c = let a = c.args in spread-turned a.list.now a.lo a.id a.hi _ c.requires.0 c.requires.1 c.rotate_right.ensures.after
