-- `unsound` meets its contract. Assumes nothing.
use Rattle.frames.proofs.Laws.{asked-frame, malformed_none}
use Rattle.unheard.proofs.Laws.{dull-unheard, call-unheard}
use Rattle.unheard.proofs.unsound.Goals as goal

pub returns-in_default : goal.returns-in_default
returns-in_default c s =
    dull-unheard (malformed_none c.read.ensures c.in_default.is).0
    (c.malformed.ensures s)

pub returns : goal.returns
returns c s = call-unheard (asked-frame c.read.ensures c.in-Some.is) c.done-a.ensures c.tell.ensures
