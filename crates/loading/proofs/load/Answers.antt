-- `load` meets its contract: the tests say which case of the promise is asked; what was read is the one state of its text. Assumes nothing.
use mathlib.Core.Path.{sym, ◌∙◌}
use native.Mathlib.Omega.{arith}
use Rattle.accepting.proofs.Accepting.{false_true}
use Rattle.loading.proofs.Laws.{does_not_fit, not_four, not_saved, was_saved}
use Rattle.loading.proofs.load.Goals as goal

pub returns-then-not-fits : goal.returns-then-not-fits
returns-then-not-fits c = does_not_fit (λ f. false_true (sym c.if-not-fits.true ∙ c.fits.ensures.always f))

pub returns-then-channels-ne-FOUR : goal.returns-then-channels-ne-FOUR
returns-then-channels-ne-FOUR c = not_four (c.fits.ensures.only c.if-not-fits.false) (λ e. omega arith)

pub returns-in_default : goal.returns-in_default
returns-in_default c = let n = c.in_default.ensures in not_saved (c.fits.ensures.only c.if-not-fits.false) (omega arith) n.0

pub restore-requires : goal.restore-requires
restore-requires c = let y = c.in-Some.ensures in (y.held, c.fits.ensures.only c.if-not-fits.false)

pub returns : goal.returns
returns c = was_saved (c.fits.ensures.only c.if-not-fits.false) (omega arith) c.in-Some.ensures c.restore.ensures
