-- `hit` meets its contract, by what `names` and `matches` ensure. Assumes nothing.
use Rattle.channel.specs.Channel.{hits}
use Rattle.channel.proofs.hit.Goals as goal

pub returns-then-names : goal.returns-then-names
unfolding hits
returns-then-names c = rw (← c.names.ensures, c.if-names.true) c.matches.ensures

pub returns-else-names : goal.returns-else-names
unfolding hits
returns-else-names c = rw (← c.names.ensures, c.if-names.false)
