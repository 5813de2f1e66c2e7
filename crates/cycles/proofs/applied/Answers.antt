-- `applied` meets its contract: the bytes are set one after the other, where the mark is 1. Assumes nothing.
use mathlib.Core.Path.{refl}
use borrow.Author.Tests.{eq-eqb, ne_eqb}
use Rattle.cycles.specs.Cycles.{applied_in}
use Rattle.cycles.proofs.applied.Goals as goal

pub returns-then-b-eq1 : goal.returns-then-b-eq1
unfolding applied_in
returns-then-b-eq1 c = rw (eq-eqb _ _ c.if-b-eq1.true) refl

pub returns-else-b-eq1 : goal.returns-else-b-eq1
unfolding applied_in
returns-else-b-eq1 c = rw (ne_eqb _ _ c.if-b-eq1.false) refl
