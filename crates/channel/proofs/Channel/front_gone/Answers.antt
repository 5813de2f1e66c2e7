-- `front_gone` meets its contract: the queue's `tail`. Assumes nothing.
use Rattle.channel.proofs.Channel.front_gone.Goals as goal

pub returns : goal.returns
returns c = rw (← c.tail-left.ensures) c.with_writes.ensures
