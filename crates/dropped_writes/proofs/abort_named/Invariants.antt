-- `abort_named` meets its contract: with the channels before i done, doing the rest gives the whole. Assumes nothing.
use Rattle.dropped_writes.proofs.Turns.{AbortingIn}
use Rattle.dropped_writes.proofs.abort_named.Given as goal

abbrev pub invariant-loop-i : goal.invariant-loop-i
invariant-loop-i l = AbortingIn l.map l.n l.fn.cs l.initial.table l.initial.replies l.table l.replies l.at l.i
