-- `change_named` meets its contract: the channels done and the change of the rest make the change. Assumes nothing.
use mathlib.Core.Path.{◌≡◌}
use lib.ListN.{length}
use Rattle.channel.specs.Channel.{changed_of, change_each}
use Rattle.channel.proofs.Turns.{rest}
use Rattle.channel.proofs.change_named.Given as goal

abbrev pub invariant-loop-i : goal.invariant-loop-i
invariant-loop-i l = (length l.d-items ≡ 8) × (rest (changed_of l.how) l.map l.i l.d-items ≡ change_each (changed_of l.how) l.map l.fn.cs)
