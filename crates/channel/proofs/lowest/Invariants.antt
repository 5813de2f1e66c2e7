-- `lowest` meets its contract: i places passed and the lowest place of the rest make the lowest place. Assumes nothing.
use Prim.Native.Nat.{◌-◌, ◌+◌, ◌/◌, ◌^◌}
use mathlib.Core.Path.{◌≡◌}
use Rattle.channel.specs.Channel.{lowest_from}
use Rattle.channel.proofs.lowest.Given as goal

abbrev pub invariant-loop-i : goal.invariant-loop-i
invariant-loop-i l = l.i + lowest_from (8 - l.i) (l.map / 2 ^ l.i) ≡ lowest_from 8 l.map
