-- `clean` meets its contract: its queue is struck. Assumes nothing.
use mathlib.Core.Path.{refl, ◌∙◌}
use Rattle.leaving.proofs.clean.Goals as goal

pub returns : goal.returns
returns c = c.with_writes.ensures ∙ (rw c.strike-p.ensures refl)
