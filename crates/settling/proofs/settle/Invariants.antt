-- `settle` meets its contract: at the head of a walk and where it stops, what is to come is what was to come at the start; a
-- walk without a grant has nothing to come. Each grant leaves fewer waiting. Assumes nothing.
use Prim.Native.Nat.{◌-◌}
use Rattle.settling.proofs.Loops.{HeadAt, WalkAt}
use Rattle.settling.proofs.settle.Given as goal

abbrev pub invariant-loop-t : goal.invariant-loop-t
invariant-loop-t l = WalkAt l.initial.s l.initial.table l.initial.replies l.initial.n l.initial.looks l.initial.left l.t l.s l.table l.replies l.n l.looks l.left l.i

abbrev pub decreases-loop-t : goal.decreases-loop-t
decreases-loop-t l = l.s.waiting.n - l.i

abbrev pub invariant-again : goal.invariant-again
invariant-again l = HeadAt l.initial.s l.initial.table l.initial.replies l.initial.n l.s l.table l.replies l.n l.looks l.left

abbrev pub decreases-again : goal.decreases-again
decreases-again l = l.s.waiting.n
