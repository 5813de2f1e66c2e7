-- `place` meets its contract: no request passed has a lower precedence, and the one it stops at has. Assumes nothing.
use Prim.Native.Nat.{◌+◌}
use mathlib.Core.Path.{◌≡◌}
use lib.ListN.{drop}
use Rattle.joining.specs.Joining.{place_in}
use Rattle.joining.proofs.place.Given as goal

abbrev pub invariant-loop-i : goal.invariant-loop-i
invariant-loop-i l = l.i + place_in l.prec l.table (drop l.i l.id-items) ≡ place_in l.prec l.table l.id-items
