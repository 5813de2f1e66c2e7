-- `fresh` meets its contract: eight unused channels and empty queues. Assumes nothing.
use Rattle.open_keys.specs.machine.State.{frees}
use Rattle.store.proofs.State.fresh.Goals as goal

pub returns : goal.returns
unfolding frees
returns c = rw (c.none.ensures, c.empty-q.ensures, c.unused-c.ensures)
