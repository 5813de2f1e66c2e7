-- `carry` meets its contract: the outcome is that of the desk's call on what the bytes hold, and at most 32
-- replies in each half fit the answer's bytes. Assumes nothing.
use native.Mathlib.Omega.{arith}
use Rattle.bytes_call.proofs.Laws.{few_lent, carries}
use Rattle.bytes_call.proofs.carry.Goals as goal

pub put_answer-requires : goal.put_answer-requires
put_answer-requires c =
    let f = few_lent c.show-d.ensures in
    (c.requires.0, omega arith, omega arith)

pub overflow_add-result : goal.overflow_add-result
overflow_add-result c =
    let f = few_lent c.show-d.ensures in
    omega arith

pub returns : goal.returns
returns c = carries c.show-d.ensures (omega arith) c.put_answer.ensures
