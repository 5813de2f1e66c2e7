-- `mark` meets its contract: each arm is a case of the definition. Assumes nothing.
use Rattle.display.specs.Display.{holds}
use Rattle.records.proofs.mark.Goals as goal

pub returns-in-Fails : goal.returns-in-Fails
unfolding holds
returns-in-Fails c = rw c.in-Fails.is

pub returns-in-Held : goal.returns-in-Held
unfolding holds
returns-in-Held c = rw c.in-Held.is

pub returns-in-Grants : goal.returns-in-Grants
unfolding holds
returns-in-Grants c = rw c.in-Grants.is
