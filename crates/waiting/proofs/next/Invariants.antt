-- `next` meets its contract: nothing comes of the requests passed, and each is read from its entry. Assumes nothing.
use Rattle.waiting.proofs.Finding.{Passing}
use Rattle.waiting.proofs.next.Given as goal

abbrev pub invariant-loop-at : goal.invariant-loop-at
invariant-loop-at l = Passing l.t l.q l.table l.from l.at
