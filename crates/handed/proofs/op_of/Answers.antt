-- `op_of` meets its contract: its arms are the tests of the log. Assumes nothing.
use borrow.Author.Rules.{rules}
use Rattle.handed.proofs.Laws.{op_open, op_close, op_abort, op_cycle, op_up, op-command}
use Rattle.handed.proofs.op_of.Goals as goal

pub returns-in-240 : goal.returns-in-240
returns-in-240 c = op_open _ c.in-240.is

pub returns-in-241 : goal.returns-in-241
returns-in-241 c = op_close _ c.in-241.is

pub returns-in-242 : goal.returns-in-242
returns-in-242 c = op_abort _ c.in-242.is

pub returns-in-243 : goal.returns-in-243
returns-in-243 c = op_cycle _ c.in-243.is

pub returns-in-244 : goal.returns-in-244
returns-in-244 c = op_up _ c.in-244.is

pub returns-in_default : goal.returns-in_default
returns-in_default c = op-command _ (search rules) (search rules) (search rules) (search rules) (search rules)
