-- `word` meets its contract: a lane has the bit of its channel. Assumes nothing.
use mathlib.Core.Path.{◌∙◌}
use Rattle.lanes.proofs.Laws.{spread_is}
use Rattle.lanes.proofs.word.Goals as goal

pub returns : goal.returns
returns c = c.spread.ensures ∙ spread_is _ _ c.named_by.ensures
