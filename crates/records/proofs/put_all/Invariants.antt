-- `put_all` meets its contract: after i turns the records of the first i requests stand in front. Assumes nothing.
use Rattle.records.proofs.Records.{Filling}
use Rattle.records.proofs.put_all.Given as goal

abbrev pub invariant-loop-i : goal.invariant-loop-i
invariant-loop-i l = Filling l.t l.q l.table l.initial.out l.i l.out
