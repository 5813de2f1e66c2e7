-- `hear` meets its contract: what was fed is heard. Assumes nothing.
use Rattle.hearing.proofs.Laws.{lent-tells}
use Rattle.hearing.proofs.hear.Goals as goal

pub returns : goal.returns
returns c = lent-tells c.feed.ensures
