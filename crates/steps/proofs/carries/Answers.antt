-- `carries` meets its contract: WRITE and PERVOL alone carry numbers. Assumes nothing.
use mathlib.Core.Path.{sym}
use borrow.Author.Tests.{eq-eqb, ne_eqb}
use Rattle.store.proofs.machine.Known.{carries_two}
use Rattle.steps.proofs.carries.Goals as goal

pub returns-then-command-eq3 : goal.returns-then-command-eq3
returns-then-command-eq3 c = sym (rw (carries_two c.args.command, eq-eqb _ _ c.if-command-eq3.true))

pub returns-else-command-eq3 : goal.returns-else-command-eq3
returns-else-command-eq3 c = sym (rw (carries_two c.args.command, ne_eqb _ _ c.if-command-eq3.false))
