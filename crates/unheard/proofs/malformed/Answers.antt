-- `malformed` meets its contract. Assumes nothing.
use Rattle.unheard.proofs.Laws.{dull-told}
use Rattle.unheard.proofs.malformed.Goals as goal

pub returns : goal.returns
returns c s = dull-told c.done-a.ensures c.tell.ensures
