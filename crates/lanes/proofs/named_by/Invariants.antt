-- `named_by` meets its contract: what was gathered, or one of those left, names a channel exactly where one of all does. Assumes nothing.
use Rattle.lanes.proofs.Laws.{Gathered}
use Rattle.lanes.proofs.named_by.Given as goal

abbrev pub invariant-loop-m : goal.invariant-loop-m
invariant-loop-m l = Gathered l.combos l.all l.m-index
