-- `hit` meets its contract, by what `names` and `passes` ensure. Assumes nothing.
use Rattle.fronts.specs.Fronts.{named}
use Rattle.fronts.proofs.hit.Goals as goal

pub returns-then-names : goal.returns-then-names
unfolding named
returns-then-names c = rw (← c.names.ensures, c.if-names.true) c.passes.ensures

pub returns-else-names : goal.returns-else-names
unfolding named
returns-else-names c = rw (← c.names.ensures, c.if-names.false)
