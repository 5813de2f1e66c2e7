-- `of` meets its contract: the masks and the precedences of the channels read so far, from the last on. Assumes nothing.
use Rattle.standing.proofs.Turns.{Reading}
use Rattle.standing.proofs.of.Given as goal

abbrev pub invariant-loop-i : goal.invariant-loop-i
invariant-loop-i l = Reading l.cs l.busy l.locked l.precs l.i

abbrev pub decreases-loop-i : goal.decreases-loop-i
decreases-loop-i l = l.i
