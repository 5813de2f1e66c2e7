-- `take` meets its contract: without an LF the line goes on, and with one it is fed as it stands. Assumes nothing.
use native.Mathlib.Omega.{arith}
use borrow.Author.Tests.{not-true, not-false}
use Rattle.taking.proofs.Laws.{open_takes, ended-takes, gathered_few}
use Rattle.taking.proofs.take.Goals as goal

pub returns-then-not-g : goal.returns-then-not-g
returns-then-not-g c =
    let p = c.requires in
    (p.0, open_takes c.gather-g.ensures p.1 (not-true c.gather-g.result.ended c.if-not-g.true))

pub answer-m-requires : goal.answer-m-requires
answer-m-requires c =
    let p = c.requires in
    let f = gathered_few c.gather-g.ensures p.2 in
    (p.0, p.1, omega arith)

pub returns : goal.returns
returns c =
    let e = c.answer-m.ensures in
    (e.0, ended-takes _ c.gather-g.ensures (not-false c.gather-g.result.ended c.if-not-g.false) e.1 e.2)
