-- `gone` meets its contract. Assumes nothing.
use Rattle.deciding.proofs.gone.Goals as goal

pub wait_word-requires : goal.wait_word-requires
wait_word-requires c =
    let p = c.requires in
    let q = p.1 c.in-Abort.is in
    (q.0, p.0, q.1)

pub returns-in-Abort : goal.returns-in-Abort
returns-in-Abort c = rw c.in-Abort.is c.wait_word.ensures
