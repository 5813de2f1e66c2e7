-- `fill` meets its contract: after m turns the maps below m that meet the wish stand at the front.
-- Assumes nothing.
use Rattle.stereo.proofs.Turns.{Filled}
use Rattle.stereo.proofs.fill.Given as goal

abbrev pub invariant-loop-map : goal.invariant-loop-map
invariant-loop-map l = Filled l.left l.right l.initial.maps l.maps l.n l.map
