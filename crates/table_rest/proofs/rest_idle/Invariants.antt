-- `rest_idle` meets its contract: the test of the ids left, from the last to the first, is the test of all. Assumes nothing.
use Prim.Native.Nat.{◌-◌, ◌≤◌}
use mathlib.Core.Path.{◌≡◌}
use Rattle.table_rest.specs.TableRest.{rest_idle}
use Rattle.table_rest.proofs.rest_idle.Given as goal

abbrev pub invariant-loop-i : goal.invariant-loop-i
invariant-loop-i l = (l.i ≤ 64) × (rest_idle l.table l.seen l.i ≡ rest_idle l.table l.seen 64)

abbrev pub decreases-loop-i : goal.decreases-loop-i
decreases-loop-i l = l.i
