-- `handle` meets its contract: the board that was loaded is called, and what is left is saved. Assumes nothing.
use Rattle.image.proofs.Laws.{whole_long}
use Rattle.arbiter.proofs.Lent.{handled_lent}
use Rattle.arbiter.proofs.handle.Goals as goal

pub on_board-d-requires : goal.on_board-d-requires
on_board-d-requires c =
    rw c.load-b.ensures
    c.requires.1

pub save-requires : goal.save-requires
save-requires c = whole_long _ c.requires.0

pub returns : goal.returns
returns c =
    let v = c.save.ensures in
    let e = rw c.load-b.ensures at c.on_board-d.ensures in
    (v.whole, handled_lent v e.0, e.1)
