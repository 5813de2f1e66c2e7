-- `place` meets its contract: the walk over the ids left, with the marks made so far, is the whole walk. Assumes nothing.
use mathlib.Core.Bool.{not}
use mathlib.Core.Path.{refl, ap}
use Rattle.placing.proofs.Turns.{walked_wild, walked_stop, walked_more, walked_end}
use borrow.Author.Rules.{rules}
use Rattle.placing.proofs.place.Goals as goal

pub loop-id-init : goal.loop-id-init
loop-id-init c = record { long = search rules; rest = refl }

pub returns-then-id-ge-REQUESTS : goal.returns-then-id-ge-REQUESTS
returns-then-id-ge-REQUESTS c = walked_wild c.loop-id.invariant (search rules) (search rules)

pub returns-then-not-fits : goal.returns-then-not-fits
returns-then-not-fits c = walked_stop c.loop-id.invariant (search rules) (search rules) c.fits.ensures (ap not c.if-not-fits.true)

pub loop-id-preserved : goal.loop-id-preserved
loop-id-preserved c = walked_more c.loop-id.invariant (search rules) (search rules) c.fits.ensures (ap not c.if-not-fits.false)

pub returns : goal.returns
returns c = walked_end c.loop-id.invariant (search rules)
