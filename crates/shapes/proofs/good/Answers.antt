-- `good` meets its contract: the code's two tests are the definition's two. Assumes nothing.
use Rattle.shapes.specs.Shapes.{good}
use Rattle.shapes.proofs.good.Goals as goal

pub returns-then-tidy : goal.returns-then-tidy
unfolding good
returns-then-tidy c = rw (← c.tidy.ensures, c.if-tidy.true) c.blank.ensures

pub returns-else-tidy : goal.returns-else-tidy
unfolding good
returns-else-tidy c = rw (← c.tidy.ensures, c.if-tidy.false)
