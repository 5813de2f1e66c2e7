-- `locked` meets its contract: the test of the channels left is the test of all. Assumes nothing.
use Prim.Native.Nat.{ℕ}
use mathlib.Core.Bool.{◌&&◌}
use lib.Dec.{eqb}
use Rattle.store.specs.machine.State.{Write}
use Rattle.span_entries.proofs.Turns.{Tested}
use Rattle.span_entries.proofs.locked.Given as goal

abbrev pub invariant-loop-i : goal.invariant-loop-i
invariant-loop-i l = (f : ℕ → Write) → Tested f (λ c. c.locked && eqb c.key l.key) l.map l.c-items l.i
