-- `meet` meets its contract: those who wait are sifted from the queue, answered 0. Assumes nothing.
use Rattle.events.proofs.Steps.{meet_asks, meets}
use borrow.Author.Rules.{rules}
use Rattle.events.proofs.meet.Goals as goal

pub sift-f-requires : goal.sift-f-requires
sift-f-requires c = meet_asks (search rules) c.requires

pub returns : goal.returns
returns c = meets (search rules) c.requires c.sift-f.ensures
