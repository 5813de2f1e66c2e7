-- `fresh` meets its contract: the first i precedences are stored. Assumes nothing.
use mathlib.Core.Path.{◌≡◌}
use Rattle.lent.proofs.Anew.{precs}
use Rattle.lent.proofs.fresh.Given as goal

abbrev pub invariant-loop-i : goal.invariant-loop-i
invariant-loop-i l = l.state ≡ precs l.i l.initial.state
