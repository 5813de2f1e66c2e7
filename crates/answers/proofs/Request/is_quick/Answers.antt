-- `is_quick` meets its contract: the flag is the lowest bit. Assumes nothing.
use mathlib.Core.Path.{refl}
use Rattle.store.specs.machine.Numbers.{quick}
use Rattle.answers.proofs.Request.is_quick.Goals as goal

pub returns : goal.returns
unfolding quick
returns c = refl
