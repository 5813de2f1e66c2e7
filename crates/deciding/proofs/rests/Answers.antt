-- `rests` meets its contract. Assumes nothing.
use mathlib.Core.Path.{refl}
use Rattle.deciding.proofs.rests.Goals as goal

pub returns-in-Open : goal.returns-in-Open
returns-in-Open c = rw c.in-Open.is refl
