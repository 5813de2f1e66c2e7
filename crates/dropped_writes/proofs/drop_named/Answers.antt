-- `drop_named` meets its contract: the writes go, then those who wait are sifted on what is left. Assumes nothing.
use Rattle.dropped_writes.proofs.Dropping.{abort_fits, sifting, dropt}
use Rattle.dropped_writes.proofs.drop_named.Goals as goal

pub abort_named-at-requires : goal.abort_named-at-requires
abort_named-at-requires c =
    let a = c.requires in
    (a.writable, a.tall, abort_fits a)

pub sift-requires : goal.sift-requires
sift-requires c = sifting c.requires c.abort_named-at.ensures

pub returns : goal.returns
returns c = λ a. dropt a c.abort_named-at.ensures c.sift.ensures
