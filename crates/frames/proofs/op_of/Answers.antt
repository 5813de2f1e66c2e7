-- `op_of` meets its contract: its arms are the machine's tests. Assumes nothing.
use borrow.Author.Tests.{ne_eqb}
use Rattle.digits.specs.machine.Log.{op_of}
use borrow.Author.Rules.{rules}
use Rattle.frames.proofs.op_of.Goals as goal

pub returns-in-240 : goal.returns-in-240
unfolding op_of
returns-in-240 c = rw c.in-240.is

pub returns-in-241 : goal.returns-in-241
unfolding op_of
returns-in-241 c = rw c.in-241.is

pub returns-in-242 : goal.returns-in-242
unfolding op_of
returns-in-242 c = rw c.in-242.is

pub returns-in-243 : goal.returns-in-243
unfolding op_of
returns-in-243 c = rw c.in-243.is

pub returns-in-244 : goal.returns-in-244
unfolding op_of
returns-in-244 c = rw c.in-244.is

pub returns-in_default : goal.returns-in_default
unfolding op_of
returns-in_default c =
    let b = c.args.b in
    rw (ne_eqb b 240 (search rules), ne_eqb b 241 (search rules), ne_eqb b 242 (search rules), ne_eqb b 243 (search rules), ne_eqb b 244 (search rules))
