-- `counted` meets its contract: the low byte lends from the high one, and a count of 0 stays. Assumes nothing.
use mathlib.Core.Path.{refl}
use borrow.Author.Tests.{eq-eqb, ne_eqb}
use Rattle.cycles.specs.Cycles.{counted_in}
use Rattle.cycles.proofs.counted.Goals as goal

pub returns-then-low-ne0 : goal.returns-then-low-ne0
unfolding counted_in
returns-then-low-ne0 c = rw (ne_eqb _ _ c.if-low-ne0.true) refl

pub returns-then-high-ne0 : goal.returns-then-high-ne0
unfolding counted_in
returns-then-high-ne0 c = rw (eq-eqb _ _ c.if-low-ne0.false, ne_eqb _ _ c.if-high-ne0.true) refl

pub returns-else-high-ne0 : goal.returns-else-high-ne0
unfolding counted_in
returns-else-high-ne0 c = rw (eq-eqb _ _ c.if-low-ne0.false, eq-eqb _ _ c.if-high-ne0.false) refl
