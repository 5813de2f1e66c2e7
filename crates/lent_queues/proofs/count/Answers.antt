-- `count` meets its contract: the number stands in front. Assumes nothing.
use Rattle.image.specs.Image.{queue_at}
use Rattle.lent_queues.proofs.count.Goals as goal

pub returns : goal.returns
unfolding queue_at
returns c = c.from.ensures
