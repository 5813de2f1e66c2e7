-- `new_key` meets its contract: with i candidates passed, the first unused of the rest is the new key. Assumes nothing.
use Rattle.open_keys.specs.queue.Queue.{list_of}
use Rattle.open_keys.specs.OpenKeys.{keys_in}
use Prim.Native.Nat.{◌-◌}
use mathlib.Core.Path.{◌≡◌}
use Rattle.store.specs.machine.Granting.{first_unused}
use Rattle.keys.proofs.Turns.{used_keys}
use Rattle.keys.proofs.new_key.Given as goal

abbrev pub invariant-loop : goal.invariant-loop
invariant-loop l = first_unused (l.many - l.counter) l.k (used_keys l.cs l.table (list_of l.q) (keys_in l.opens)) ≡ first_unused l.many l.initial.k (used_keys l.cs l.table (list_of l.q) (keys_in l.opens))
