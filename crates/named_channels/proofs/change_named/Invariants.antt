-- `change_named` meets its contract: the channels done and the change of the rest make the change. Assumes nothing.
use mathlib.Core.Path.{◌≡◌}
use lib.ListN.{length}
use Rattle.named_channels.proofs.Turning.{Turned}
use Rattle.named_channels.proofs.change_named.Given as goal

abbrev pub invariant-loop-i : goal.invariant-loop-i
invariant-loop-i l = (length l.state ≡ length l.initial.state) × Turned l.how l.map l.initial.state l.state l.i
