-- `tune_named` meets its contract: with the channels before i done, doing the rest gives the whole. Assumes nothing.
use Rattle.tuning.proofs.Turns.{Tuning}
use Rattle.tuning.proofs.tune_named.Given as goal

abbrev pub invariant-loop-i : goal.invariant-loop-i
invariant-loop-i l = Tuning l.how l.new l.map l.fn.cs l.initial.table l.table l.i
