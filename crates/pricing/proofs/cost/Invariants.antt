-- `cost` meets its contract: the higher of the top so far and of the channels left is the highest precedence, and the number so
-- far and the number left are the number stolen. Assumes nothing.
use Prim.Native.Nat.{◌<◌}
use Rattle.pricing.proofs.Turns.{Summed}
use Rattle.pricing.proofs.cost.Given as goal

abbrev pub invariant-loop-i : goal.invariant-loop-i
invariant-loop-i l = Summed l.taken l.prec-items l.top l.many l.i × (l.top < 256)
