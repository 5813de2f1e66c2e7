-- `verdict` meets its contract: -10 exactly where not all that was asked for matched. Assumes nothing.
use borrow.Author.Tests.{eq-eqb, ne_eqb}
use Rattle.sweep.specs.Sweep.{error_at}
use Rattle.sweep.proofs.verdict.Goals as goal

pub returns-then-ok-r : goal.returns-then-ok-r
unfolding error_at
returns-then-ok-r c = rw (eq-eqb _ _ c.if-ok-r.true) c.done.ensures

pub returns-else-ok-r : goal.returns-else-ok-r
unfolding error_at
returns-else-ok-r c = rw (ne_eqb _ _ c.if-ok-r.false) c.done-else-ok-r.ensures
