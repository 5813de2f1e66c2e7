-- `tune_fronts` meets its contract: each channel with a write in progress has a front whose entry is a write's, and no struct changes.
-- Assumes nothing.
use Rattle.answers.proofs.store.Store.{held_length}
use Rattle.tuning.proofs.Laws.{tune_asks, tunes}
use Rattle.tuning.proofs.tune_fronts.Goals as goal

pub tune_named-requires : goal.tune_named-requires
tune_named-requires c = (held_length c.requires, tune_asks c.requires _ c.which-on.ensures)

pub returns : goal.returns
returns c = tunes c.requires _ c.which-on.ensures c.args.how c.tune_named.ensures
