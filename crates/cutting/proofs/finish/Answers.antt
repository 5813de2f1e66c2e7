-- `finish` meets its contract: the front writes of the channels that match and have one in progress are cut. Assumes nothing.
use native.Mathlib.Omega.{arith}
use Rattle.cutting.proofs.Laws.{finish-ready, finish_room, told-finish}
use Rattle.cutting.proofs.finish.Goals as goal

pub cut_fronts-d-requires : goal.cut_fronts-d-requires
cut_fronts-d-requires c = finish-ready c.args.r c.matching-ok.ensures c.which-on.ensures c.requires.0

pub finished-requires : goal.finished-requires
finished-requires c =
    let room = finish_room c.args.r c.matching-ok.ensures c.which-on.ensures c.requires.0 c.cut_fronts-d.ensures in
    omega (arith, room)

pub returns : goal.returns
returns c =
    let p = c.requires in
    told-finish c.args.r c.matching-ok.ensures c.which-on.ensures p.0 c.cut_fronts-d.ensures p.1 p.2 p.3 c.verdict-a.ensures c.finished.ensures
