-- `front` meets its contract, case by case of its two tests. Assumes nothing.
use Rattle.answers.proofs.machine.Tests.{eqb_false}
use Rattle.play.specs.Play.{front_of}
use Rattle.play.proofs.front.Goals as goal

pub returns-then-c : goal.returns-then-c
unfolding front_of
returns-then-c c = rw c.if-c.true

pub returns-then-q-eq0 : goal.returns-then-q-eq0
unfolding front_of
returns-then-q-eq0 c = rw (c.if-c.false, c.if-q-eq0.true)

pub returns : goal.returns
unfolding front_of
returns c = rw (c.if-c.false, eqb_false _ _ c.if-q-eq0.false) c.at.ensures
