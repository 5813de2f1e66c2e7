-- `place` meets its contract: the walk over the ids left, with the marks made so far, is the whole walk. Assumes nothing.
use Rattle.placing.specs.Placing.{kind_test}
use Rattle.placing.proofs.Turns.{Walked}
use Rattle.placing.proofs.place.Given as goal

abbrev pub invariant-loop-id : goal.invariant-loop-id
invariant-loop-id l = Walked (kind_test l.kind l.cs l.table) l.id-items l.initial.marks l.marks l.id-index
