-- `impatient` meets its contract, by what `byte` ensures. Assumes nothing.
use Rattle.table.proofs.impatient.Goals as goal

pub returns : goal.returns
returns c = rw c.byte.ensures
