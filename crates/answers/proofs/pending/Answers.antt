-- `pending` meets its contract: the fields are the machine's. Assumes nothing.
use mathlib.Core.Path.{refl}
use Rattle.store.specs.machine.Commands.{pending}
use Rattle.answers.proofs.pending.Goals as goal

pub returns : goal.returns
unfolding pending
returns c = refl
