-- `copy` meets its contract: after k turns the first k bytes of `from` stand from `at` on, and every other byte is as before.
-- Assumes nothing.
use mathlib.Core.Path.{◌≡◌}
use lib.ListN.{take}
use Rattle.memory.specs.Splice.{splice}
use Rattle.memory.proofs.copy.Given as goal

abbrev pub invariant-loop-k : goal.invariant-loop-k
invariant-loop-k l = l.list ≡ splice l.initial.list l.at (take l.k l.from)
