-- `load2` meets its contract: the tests say which case of the promise is asked; what was read is the one state of its text. Assumes nothing.
use mathlib.Core.Path.{refl, sym, ◌∙◌}
use Rattle.loading.proofs.accepting.Accepting.{false_true}
use Rattle.loading.proofs.sound.Laws.{yes_T}
use Rattle.loading2.proofs.Laws2.{no_T, does_not_fit, no_board, not_saved, was_saved}
use Rattle.loading2.proofs.load2.Goals as goal

pub returns-then-not-fits : goal.returns-then-not-fits
returns-then-not-fits c = does_not_fit (λ f. false_true (sym c.if-not-fits.true ∙ c.fits.ensures.always f))

pub returns-then-not-sized : goal.returns-then-not-sized
returns-then-not-sized c = no_board (c.fits.ensures.only c.if-not-fits.false) (no_T (sym c.sized.ensures ∙ c.if-not-sized.true))

pub accept2-requires : goal.accept2-requires
accept2-requires c = (yes_T _ (sym c.sized.ensures ∙ c.if-not-sized.false), refl)

pub returns-in_default : goal.returns-in_default
returns-in_default c =
    let n = c.in_default.ensures in
    not_saved (c.fits.ensures.only c.if-not-fits.false) (yes_T _ (sym c.sized.ensures ∙ c.if-not-sized.false)) n.0

pub restore-requires : goal.restore-requires
restore-requires c = let y = c.in-Some.ensures in (y.held, c.fits.ensures.only c.if-not-fits.false)

pub returns : goal.returns
returns c = was_saved (c.fits.ensures.only c.if-not-fits.false) (yes_T _ (sym c.sized.ensures ∙ c.if-not-sized.false)) c.in-Some.ensures c.restore.ensures
