-- `copy` meets its contract: after k turns the first k bytes of `from` stand from `at` on, and every other byte is as before.
-- Assumes nothing.
use mathlib.Core.Path.{sym}
use native.Mathlib.Omega.{arith}
use lib.Seq.{take_all}
use Rattle.memory.proofs.Splice.{splice_none, copy_turn}
use Rattle.memory.proofs.copy.Goals as goal

pub loop-k-init : goal.loop-k-init
loop-k-init c = sym (splice_none _ _)

pub loop-k-preserved : goal.loop-k-preserved
loop-k-preserved c =
    let l = c.loop-k in
    let a = c.args in
    rw l.invariant (copy_turn a.list.now a.from.now a.at l.k (omega arith) (omega arith))

pub returns : goal.returns
returns c =
    let l = c.loop-k in
    let a = c.args in
    rw (take_all l.k a.from.now (omega arith)) at l.invariant
