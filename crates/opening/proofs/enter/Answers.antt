-- `enter` meets its contract: the grant, and an entry more. Assumes nothing.
use Rattle.allocating.proofs.Steps.{enter_room, enter_told}
use Rattle.opening.proofs.enter.Goals as goal

pub add-t-requires : goal.add-t-requires
add-t-requires c =
    let g = c.grant-g.ensures in
    enter_room c.args.r c.args.map g c.requires.0.held c.requires.1

pub returns : goal.returns
returns c = enter_told c.args.r c.args.map c.grant-g.ensures c.done-yes.ensures c.add-t.ensures
