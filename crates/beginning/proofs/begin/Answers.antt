-- `begin` meets its contract: a fresh board is held with a table of zeros, and a loaded one with its own. Assumes nothing.
use mathlib.Core.Path.{ap, ◌∙◌}
use lib.ListN.{length}
use Rattle.beginning.proofs.Beginning.{begins-fresh, begins-loaded, begins-loaded2}
use Rattle.beginning.proofs.begin.Goals as goal

pub returns-then-not-load : goal.returns-then-not-load
returns-then-not-load c =
    let s = c.requires in
    begins-fresh s.0 c.if-not-load.true c.fresh.ensures s.1 s.2

pub resume2-requires : goal.resume2-requires
resume2-requires c =
    let s = c.requires in
    (s.0, s.1, ap length s.2)

pub returns-then-second : goal.returns-then-second
returns-then-second c =
    begins-loaded2 _ c.if-not-load.false c.if-second.true c.requires.2 c.resume2.ensures
    (c.resume2.auto.display ∙ ap length c.requires.2)

pub resume-requires : goal.resume-requires
resume-requires c =
    let s = c.requires in
    (s.1, ap length s.2)

pub returns : goal.returns
returns c =
    begins-loaded _ c.if-not-load.false c.if-second.false c.requires.2 c.resume.ensures
    (c.resume.auto.display ∙ ap length c.requires.2)
