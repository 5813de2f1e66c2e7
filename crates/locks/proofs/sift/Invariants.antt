-- `sift` meets its contract: with some locks passed, those are sifted and the others as they were. Assumes nothing.
use Rattle.locks.specs.Locks.{Sifting}
use Rattle.locks.proofs.Turns.{After}
use Rattle.locks.proofs.sift.Given as goal

abbrev pub invariant-loop-id : goal.invariant-loop-id
invariant-loop-id l = (a : Sifting l.how l.m l.fn.q l.initial.table l.initial.replies l.n) → After a l.id-index l.s l.table l.replies
