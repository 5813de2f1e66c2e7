-- `due` meets its contract. Assumes nothing.
use mathlib.Core.Path.{refl}
use Rattle.refusing.proofs.due.Goals as goal

pub returns-in-Command : goal.returns-in-Command
returns-in-Command c = rw c.in-Command.is refl
