-- `falling` meets its contract: the walk over the requests left, from the last precedence on, is the whole walk. Assumes nothing.
use Rattle.table_rest.proofs.Turns.{Fell}
use Rattle.table_rest.proofs.falling.Given as goal

abbrev pub invariant-loop-id : goal.invariant-loop-id
invariant-loop-id l = Fell l.table l.id-items l.last l.id-index
