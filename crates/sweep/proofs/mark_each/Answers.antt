-- `mark_each` meets its contract: keys and writes stand, so the table does, and only the command's own reply is sent. Assumes nothing.
use Rattle.sweep.proofs.Steps.{told_mark}
use Rattle.sweep.proofs.mark_each.Goals as goal

pub returns : goal.returns
returns c =
    told_mark c.args.r c.args.how c.requires.0.held c.requires.1 c.matching-ok.ensures c.change_named-ds.ensures c.verdict-a.ensures c.requires.0.room c.requires.2
    c.finished.ensures
