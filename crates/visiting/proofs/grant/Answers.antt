-- `grant` meets its contract: the request is granted, and settling starts again at the head. Assumes nothing.
use Rattle.visiting.proofs.Promised.{grant-ready, grant_turned}
use Rattle.visiting.proofs.grant.Goals as goal

pub word_at-left-requires : goal.word_at-left-requires
word_at-left-requires c = let p = c.requires in (p.ready.held, p.inside)

pub grant_one-d-requires : goal.grant_one-d-requires
grant_one-d-requires c = let p = c.requires in (grant-ready p, p.inside)

pub returns : goal.returns
returns c =
    grant_turned c.requires
    c.word_at-left.ensures
    c.grant_one-d.ensures
