-- `each_once` meets its contract: after m turns each map below m that meets the wish stands once.
-- Assumes nothing.
use Rattle.stereo.proofs.Turns.{Once}
use Rattle.stereo.proofs.each_once.Given as goal

abbrev pub invariant-loop-map : goal.invariant-loop-map
invariant-loop-map l = Once l.left l.right l.maps l.map
