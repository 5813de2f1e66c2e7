-- `is_idle` meets its contract: three words hold the entry's bytes. Assumes nothing.
use mathlib.Core.Path.{refl}
use Rattle.table_rest.proofs.Turns.{three}
use Rattle.table_rest.proofs.is_idle.Goals as goal

pub returns : goal.returns
returns c = three _ _ _ _ _ _ refl c.at.ensures c.at-2.ensures c.at-3.ensures
