-- `take_end` meets its contract: what stands is fed, and nothing where nothing stands. Assumes nothing.
use Rattle.taking.proofs.Laws.{none_ends, some_ends}
use Rattle.taking.proofs.take_end.Goals as goal

pub returns-then-n-eq0 : goal.returns-then-n-eq0
returns-then-n-eq0 c = let p = c.requires in (p.0, none_ends p.1 c.if-n-eq0.true)

pub returns : goal.returns
returns c =
    let e = c.answer-last.ensures in
    (e.0, some_ends _ c.if-n-eq0.false e.1 e.2)
