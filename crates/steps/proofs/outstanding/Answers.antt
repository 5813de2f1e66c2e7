-- `outstanding` meets its contract: it tests the entry's first byte. Assumes nothing.
use Rattle.steps.proofs.outstanding.Goals as goal

pub returns : goal.returns
returns c = rw c.command.ensures
