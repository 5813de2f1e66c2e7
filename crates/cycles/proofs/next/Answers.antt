-- `next` meets its contract: what is remembered is applied, then counted. Assumes nothing.
use mathlib.Core.Path.{ap, ◌∙◌}
use Rattle.cycles.specs.Cycles.{counted_in}
use Rattle.cycles.proofs.next.Goals as goal

pub returns : goal.returns
returns c = c.counted.ensures ∙ ap counted_in c.applied.ensures
