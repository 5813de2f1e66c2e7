-- `zeros` meets its contract: what was gathered so far, and the test of the bytes left, are the test of all. Assumes nothing.
use mathlib.Core.Path.{refl}
use Rattle.shapes.specs.Shapes.{is_zero}
use Rattle.open_shape.proofs.Turns.{gathered_start, gathered_more, gathered_end}
use borrow.Author.Rules.{rules}
use Rattle.shapes.proofs.zeros.Goals as goal

pub loop-byte-init : goal.loop-byte-init
loop-byte-init c = gathered_start _ _

pub loop-byte-preserved : goal.loop-byte-preserved
unfolding is_zero
loop-byte-preserved c = gathered_more c.loop-byte.invariant (search rules) refl

pub returns : goal.returns
returns c = gathered_end c.loop-byte.invariant (search rules)
