-- `bit` meets its contract: each return is a case of the definition. Assumes nothing.
use native.Mathlib.Omega.{arith}
use Rattle.machine.specs.Maps.{bit}
use Rattle.standing.proofs.bit.Goals as goal

pub returns-then-b : goal.returns-then-b
unfolding bit
returns-then-b c = rw c.if-b.true (omega arith)

pub returns : goal.returns
unfolding bit
returns c = rw c.if-b.false (omega arith)
