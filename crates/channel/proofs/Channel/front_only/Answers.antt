-- `front_only` meets its contract: the queue's `head`. Assumes nothing.
use Rattle.channel.proofs.Channel.front_only.Goals as goal

pub returns : goal.returns
returns c = rw (← c.head-front.ensures) c.with_writes.ensures
