-- `zeros` meets its contract: what was gathered so far, and the test of the bytes left, are the test of all. Assumes nothing.
use Rattle.shapes.specs.Shapes.{is_zero}
use Rattle.open_shape.proofs.Turns.{Gathered}
use Rattle.shapes.proofs.zeros.Given as goal

abbrev pub invariant-loop-byte : goal.invariant-loop-byte
invariant-loop-byte l = Gathered is_zero l.bytes l.all l.byte-index
