-- `same` meets its contract: what was gathered so far, and the test of the bytes left, are the test of all. Assumes nothing.
use Rattle.memory.specs.Splice.{block}
use Rattle.entries.proofs.Turns.{Alike}
use Rattle.entries.proofs.same.Given as goal

abbrev pub invariant-loop-k : goal.invariant-loop-k
invariant-loop-k l = Alike (block 23 l.table l.id) l.byte-items l.all l.k
