-- `fill` meets its contract: after i turns the desk's records among the first i stand in front. Assumes nothing.
use Prim.Native.Nat.{◌*◌}
use mathlib.Core.Path.{◌≡◌}
use lib.ListN.{length}
use Rattle.memory.specs.Splice.{splice}
use Rattle.halves.specs.Halves.{picked}
use Rattle.halves.proofs.fill.Given as goal

abbrev pub invariant-loop-i : goal.invariant-loop-i
invariant-loop-i l = (l.at * 6 ≡ length (picked l.desk l.i l.made)) × (length l.half ≡ length l.initial.half) × (l.half ≡ splice l.initial.half 0 (picked l.desk l.i l.made))
