-- `reset` meets its contract: an empty queue is that of the empty list. Assumes nothing.
use Rattle.channel.proofs.Channel.reset.Goals as goal

pub returns : goal.returns
returns c = rw c.empty-q.ensures
