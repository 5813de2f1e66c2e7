-- `zeros` meets its contract: what was gathered so far, and the test of the keys left, are the test of all. Assumes nothing.
use mathlib.Core.Path.{refl}
use Rattle.open_shape.specs.OpenShape.{is_none}
use Rattle.open_shape.proofs.Turns.{gathered_start, gathered_more, gathered_end}
use borrow.Author.Rules.{rules}
use Rattle.open_shape.proofs.zeros.Goals as goal

pub loop-key-init : goal.loop-key-init
loop-key-init c = gathered_start _ _

pub loop-key-preserved : goal.loop-key-preserved
unfolding is_none
loop-key-preserved c = gathered_more c.loop-key.invariant (search rules) refl

pub returns : goal.returns
returns c = gathered_end c.loop-key.invariant (search rules)
