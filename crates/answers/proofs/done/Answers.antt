-- `done` meets its contract: the fields are the machine's. Assumes nothing.
use mathlib.Core.Path.{refl}
use Rattle.store.specs.machine.Commands.{done}
use Rattle.answers.proofs.done.Goals as goal

pub returns : goal.returns
unfolding done
returns c = refl
