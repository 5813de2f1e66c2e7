-- `enter` meets its contract: the id is new, so the queue has room and its entry is one item more. Assumes nothing.
use mathlib.Core.Path.{◌∙◌}
use Rattle.table.specs.Entry.{span_entry}
use Rattle.answers.proofs.store.Store.{held_length}
use Rattle.awaiting.proofs.Awaiting.{waiter_room, waiter-table, waiter-struct}
use Rattle.awaiting.proofs.enter.Goals as goal

pub put-requires : goal.put-requires
put-requires c = let p = c.requires in (p.1, held_length p.0)

pub push-more-requires : goal.push-more-requires
push-more-requires c = waiter_room c.args.r c.requires.0 c.requires.1 c.requires.2

pub returns : goal.returns
unfolding span_entry
returns c =
    let r = c.args.r in
    let p = c.requires in
    (waiter-struct r p.0 p.1 p.2 c.args.map c.push-more.ensures, c.put.ensures ∙ waiter-table r p.0 p.1 p.2 c.args.map)
