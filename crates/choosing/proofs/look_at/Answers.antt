-- `look_at` meets its contract: it looks by the standing of the channels. Assumes nothing.
use Rattle.choosing.proofs.look_at.Goals as goal

pub returns : goal.returns
returns c = λ f. c.look_by.ensures _ (c.of-t.ensures f)
