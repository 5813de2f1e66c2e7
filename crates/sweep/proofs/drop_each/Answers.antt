-- `drop_each` meets its contract: the writes of the channels that match go with who waits for them, then comes its own reply. Assumes nothing.
use native.Mathlib.Omega.{arith}
use Rattle.sweep.proofs.Steps.{drop-asks, drop-cuts, drop_room, told-drop}
use Rattle.sweep.proofs.drop_each.Goals as goal

pub drop_named-d-requires : goal.drop_named-d-requires
drop_named-d-requires c = drop-asks c.args.r c.matching-ok.ensures c.requires.0 c.args.how c.requires.2

pub finished-requires : goal.finished-requires
finished-requires c =
    let room = drop_room c.args.r c.matching-ok.ensures c.requires.0 c.args.how c.requires.2 c.drop_named-d.ensures in
    omega (arith, room)

pub returns : goal.returns
returns c =
    let a = c.args in
    let p = c.requires.0 in
    let e = c.matching-ok.ensures in
    told-drop a.r a.how p.held c.requires.1 e c.change_named-ds.ensures c.verdict-a.ensures p.room p.fits
    (drop-cuts a.r e p a.how c.requires.2 c.drop_named-d.ensures) c.finished.ensures
