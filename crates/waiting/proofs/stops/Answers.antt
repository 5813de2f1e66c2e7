-- `stops` meets its contract: each arm is a case of the definition. Assumes nothing.
use Rattle.waiting.specs.Waiting.{comes}
use Rattle.waiting.proofs.stops.Goals as goal

pub returns-in-Fails : goal.returns-in-Fails
unfolding comes
returns-in-Fails c = rw c.in-Fails.is

pub returns-in-Held : goal.returns-in-Held
unfolding comes
returns-in-Held c = rw c.in-Held.is

pub returns-in-Grants : goal.returns-in-Grants
unfolding comes
returns-in-Grants c = rw c.in-Grants.is
