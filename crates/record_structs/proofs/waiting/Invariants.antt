-- `waiting` meets its contract: after i stores the first i records stand in front. Assumes nothing.
use mathlib.Core.Path.{◌≡◌}
use Rattle.record_structs.proofs.Stores.{stored}
use Rattle.record_structs.proofs.waiting.Given as goal

abbrev pub invariant-loop-i : goal.invariant-loop-i
invariant-loop-i l = l.list ≡ stored l.bytes l.initial.list l.i
