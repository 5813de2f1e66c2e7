-- `turn_of` meets its contract, case by case of its tests. Assumes nothing.
use mathlib.Core.Path.{refl}
use borrow.Author.Tests.{eq-eqb, ne_eqb}
use Rattle.cycles.specs.Cycles.{turn_in}
use Rattle.cycles.proofs.turn_of.Goals as goal

pub returns-then-b-eq1 : goal.returns-then-b-eq1
unfolding turn_in
returns-then-b-eq1 c = rw (eq-eqb _ _ c.if-b-eq1.true) refl

pub returns-then-b-ne0 : goal.returns-then-b-ne0
unfolding turn_in
returns-then-b-ne0 c = rw (ne_eqb _ _ c.if-b-eq1.false, ne_eqb _ _ c.if-b-ne0.true) refl

pub returns-then-b-ne1 : goal.returns-then-b-ne1
unfolding turn_in
returns-then-b-ne1 c = rw (ne_eqb _ _ c.if-b-eq1.false, eq-eqb _ _ c.if-b-ne0.false, ne_eqb _ _ c.if-b-ne1.true) refl

pub returns : goal.returns
unfolding turn_in
returns c = rw (ne_eqb _ _ c.if-b-eq1.false, eq-eqb _ _ c.if-b-ne0.false, eq-eqb _ _ c.if-b-ne1.false) refl
