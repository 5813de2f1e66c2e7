-- `barred` meets its contract: of the allocated channels, those that are not below the precedence. Assumes nothing.
use lib.Dec.{ltb}
use Rattle.standing.proofs.Turns.{Marked}
use Rattle.standing.proofs.barred.Given as goal

abbrev pub invariant-loop-i : goal.invariant-loop-i
invariant-loop-i l = Marked (λ p. ltb p l.prec) l.p-items l.high l.i
