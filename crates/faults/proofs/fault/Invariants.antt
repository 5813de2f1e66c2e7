-- `fault` meets its contract: behind the lines that were passed, the fault is that of what is left. Assumes nothing.
use Prim.Native.Nat.{◌-◌, ◌≤◌}
use mathlib.Core.Path.{◌≡◌}
use mathlib.Core.List.{[]}
use lib.ListN.{length, drop}
use Rattle.faults.specs.Faults.{fault_from, fault}
use Rattle.faults.proofs.fault.Given as goal

abbrev pub invariant-loop-at : goal.invariant-loop-at
invariant-loop-at l = (l.at ≤ length l.text) × (l.k ≤ l.at) × (fault_from l.form l.k [] (drop l.at l.text) ≡ fault l.form l.text)

abbrev pub decreases-loop-at : goal.decreases-loop-at
decreases-loop-at l = length l.text - l.at
