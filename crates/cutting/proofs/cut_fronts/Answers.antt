-- `cut_fronts` meets its contract: the channels that the map names are lent with their front writes alone, so these go with who waits for
-- them, and what stands behind them is left. Assumes nothing.
use Rattle.cutting.proofs.Laws.{cut_asks, fronts_cut}
use borrow.Author.Rules.{rules}
use Rattle.cutting.proofs.cut_fronts.Goals as goal

pub drop_named-d-requires : goal.drop_named-d-requires
drop_named-d-requires c = cut_asks (search rules) c.change_named-fronts.ensures c.requires

pub returns : goal.returns
returns c = fronts_cut (search rules) c.change_named-fronts.ensures c.requires c.drop_named-d.ensures c.change_named-ds.ensures
