-- `fails` meets its contract: the request is dropped, and the walk goes on at its place. Assumes nothing.
use Rattle.visiting.proofs.Promised.{drops_ready, drops_turned}
use Rattle.visiting.proofs.fails.Goals as goal

pub word_at-left-requires : goal.word_at-left-requires
word_at-left-requires c = let p = c.requires in (p.0.ready.held, p.0.inside)

pub drop_one-d-requires : goal.drop_one-d-requires
drop_one-d-requires c = let p = c.requires in (drops_ready p.0 p.1, p.0.inside)

pub returns : goal.returns
returns c =
    let p = c.requires in
    drops_turned p.0 p.1 c.word_at-left.ensures
    c.drop_one-d.ensures
