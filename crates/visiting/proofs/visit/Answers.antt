-- `visit` meets its contract: each kind of look has its step. Assumes nothing.
use Rattle.visiting.proofs.Promised.{visits_looked, visits_impatient}
use Rattle.visiting.proofs.visit.Goals as goal

pub fails-requires : goal.fails-requires
fails-requires c =
    let p = c.requires in
    let e = c.in-Fails.is in
    (visits_looked p e, visits_impatient p e)

pub hold-requires : goal.hold-requires
hold-requires c = visits_looked c.requires c.in-Held.is

pub grant-requires : goal.grant-requires
grant-requires c = visits_looked c.requires c.in-Grants.is
