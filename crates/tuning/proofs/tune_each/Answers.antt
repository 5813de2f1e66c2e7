-- `tune_each` meets its contract: the writes in progress at the channels that match are retuned, with the numbers given. Assumes nothing.
use Rattle.tuning.proofs.Laws.{told_tune}
use Rattle.tuning.proofs.tune_each.Goals as goal

pub returns : goal.returns
returns c =
    let p = c.requires.0 in
    told_tune c.args.r p.held c.matching-ok.ensures c.args.how _ c.of-new.ensures c.tune_fronts.ensures c.requires.1 p.room c.verdict-a.ensures c.finished.ensures
