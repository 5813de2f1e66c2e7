-- `known` meets its contract: 1 to 14 and 32 are the fifteen, by one computed test of all numbers. Assumes nothing.
use borrow.Author.Rules.{rules}
use Rattle.steps.proofs.Laws.{known_none, known-low, known-late}
use Rattle.steps.proofs.known.Goals as goal

pub returns-then-command-eq0 : goal.returns-then-command-eq0
returns-then-command-eq0 c = known_none _ c.if-command-eq0.true

pub returns-then-command-le14 : goal.returns-then-command-le14
returns-then-command-le14 c = known-low c.args.command (search rules) (search rules) (search rules)

pub returns : goal.returns
returns c = known-late c.args.command (search rules) (search rules)
