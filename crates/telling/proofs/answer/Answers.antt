-- `answer` meets its contract: the line's output, as far as it is counted, is put into the room. Assumes nothing.
use mathlib.Core.Path.{sym}
use native.Mathlib.Omega.{arith}
use lib.Seq.{length-take-le}
use Rattle.telling.proofs.Laws.{told_few, told-length, poured}
use Rattle.telling.proofs.answer.Goals as goal

pub slice_bounds-hear-end : goal.slice_bounds-hear-end
slice_bounds-hear-end c = sym (length-take-le _ _ c.requires.0)

pub slice_bounds-pour-end : goal.slice_bounds-pour-end
slice_bounds-pour-end c = sym (told-length (omega arith) c.hear-k.ensures)

pub pour-requires : goal.pour-requires
pour-requires c =
    let k = told_few c.hear-k.ensures in
    let g = told-length (omega arith) c.hear-k.ensures in
    let r = c.requires.2 in
    (omega arith, omega arith)

pub returns : goal.returns
returns c =
    let a = c.args in
    let k = told_few c.hear-k.ensures in
    poured a.line.now a.n c.hear-k.ensures c.read-shown.ensures c.write.ensures c.pour.ensures (omega arith)
