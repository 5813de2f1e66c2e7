-- `zeros` meets its contract: what was gathered so far, and the test of the keys left, are the test of all. Assumes nothing.
use Rattle.open_shape.specs.OpenShape.{is_none}
use Rattle.open_shape.proofs.Turns.{Gathered}
use Rattle.open_shape.proofs.zeros.Given as goal

abbrev pub invariant-loop-key : goal.invariant-loop-key
invariant-loop-key l = Gathered is_none l.keys l.all l.key-index
