-- `close_up` meets its contract: the byte at `lo` becomes 0 and goes to the end. Assumes nothing.
use Rattle.lent_queues.proofs.Moves.{shut-turned}
use Rattle.lent_queues.proofs.close_up.Goals as goal

pub returns : goal.returns
returns c = let a = c.args in shut-turned a.list.now a.lo a.hi _ c.requires.0 c.requires.1 c.rotate_left.ensures.after
