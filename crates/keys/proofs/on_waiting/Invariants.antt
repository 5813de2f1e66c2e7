-- `on_waiting` meets its contract: no request passed has the key. Assumes nothing.
use mathlib.Core.Path.{◌≡◌}
use lib.ListN.{drop, take}
use Rattle.keys.specs.Keys.{on_waiting}
use Rattle.keys.proofs.on_waiting.Given as goal

abbrev pub invariant-loop-id : goal.invariant-loop-id
invariant-loop-id l = on_waiting l.k l.table (drop l.id-index l.id-items) ≡ on_waiting l.k l.table l.id-items
