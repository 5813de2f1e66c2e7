-- `is_synced` meets its contract: the flag is bit 5. Assumes nothing.
use mathlib.Core.Path.{refl}
use Rattle.store.specs.machine.Numbers.{synced}
use Rattle.answers.proofs.Request.is_synced.Goals as goal

pub returns : goal.returns
unfolding synced
returns c = refl
