-- `named_by` meets its contract: what was gathered, or one of those left, names a channel exactly where one of all does. Assumes nothing.
use borrow.Author.Rules.{rules}
use Rattle.lanes.proofs.Laws.{gathered_start, gathered_more, gathered_end}
use Rattle.lanes.proofs.named_by.Goals as goal

pub loop-m-init : goal.loop-m-init
loop-m-init c = gathered_start _

pub loop-m-preserved : goal.loop-m-preserved
loop-m-preserved c = gathered_more c.loop-m.invariant (search rules)

pub returns : goal.returns
returns c = gathered_end c.loop-m.invariant (search rules)
