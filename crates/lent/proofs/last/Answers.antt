-- `last` meets its contract. Assumes nothing.
use Rattle.image.specs.Image.{state_of}
use Rattle.lent.proofs.last.Goals as goal

pub returns : goal.returns
unfolding state_of
returns c = c.key_at.ensures
