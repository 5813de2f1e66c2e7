use Rattle.words.proofs.Laws.{Gathered}
use Rattle.words.proofs.none.Given as goal

abbrev pub invariant-loop-i : goal.invariant-loop-i
invariant-loop-i l = Gathered l.list l.k l.all l.i
