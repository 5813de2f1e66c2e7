-- `turn` meets its contract: what `take` answered in memory of its own is put on the page. Assumes nothing.
use mathlib.Core.Path.{refl, sym}
use Rattle.one_line.proofs.Laws.{take_few, take-size, take_held, take_put}
use Rattle.one_line.proofs.turn.Goals as goal

pub slice_bounds-put-end : goal.slice_bounds-put-end
slice_bounds-put-end c =
    take-size c.take-t.ensures.1
    c.requires.1 refl

pub put-requires : goal.put-requires
put-requires c =
    let p = c.requires in
    let e = c.take-t.ensures in
    (e.0, take_few e.1 p.1, sym (take-size e.1 p.1 refl), take_held e.1 p.1, p.3)

pub returns : goal.returns
returns c =
    let e = c.take-t.ensures in
    (e.0, take_put e.1 c.requires.1 c.put.ensures)
