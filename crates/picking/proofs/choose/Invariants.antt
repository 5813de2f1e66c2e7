-- `choose` meets its contract: as long as no combination of free channels is found, the best so far against what the
-- combinations left would choose gives what all choose. Assumes nothing.
use mathlib.Core.List.{List}
use Rattle.pricing.specs.machine.State.{Channel}
use Rattle.pricing.specs.standing.Standing.{Stood}
use Rattle.picking.proofs.Turns.{Walked}
use Rattle.picking.proofs.choose.Given as goal

abbrev pub invariant-loop-map : goal.invariant-loop-map
invariant-loop-map l = (cs : List Channel) → Stood cs l.t → Walked l.prec cs l.combos l.best l.map-index
