-- `spread` meets its contract: each bit stands at the byte of its lane. Assumes nothing.
use mathlib.Core.Path.{◌∙◌}
use Rattle.lanes.proofs.Laws.{bits_lanes}
use Rattle.lanes.proofs.spread.Goals as goal

pub returns : goal.returns
returns c = c.first.ensures ∙ bits_lanes _
