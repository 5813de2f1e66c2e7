-- `fits` meets its contract: the code's two tests are the definition's two. Assumes nothing.
use borrow.Author.Tests.{eq-eqb, ne_eqb}
use Rattle.placing.proofs.fits.Goals as goal

pub returns-then-mark-eq0 : goal.returns-then-mark-eq0
returns-then-mark-eq0 c = rw (eq-eqb _ _ c.if-mark-eq0.true) c.kept.ensures

pub returns-else-mark-eq0 : goal.returns-else-mark-eq0
returns-else-mark-eq0 c = rw (ne_eqb _ _ c.if-mark-eq0.false)
