-- `end_write` meets its contract: the write in front is replied, its id is idle, its queue one shorter. Assumes nothing.
use Rattle.tuning.proofs.store.Store.{held_length}
use Rattle.ending.proofs.Steps.{queue_held, first_small, write_ends}
use Rattle.ending.proofs.end_write.Goals as goal

pub clear-requires : goal.clear-requires
clear-requires c =
    let p = c.requires in
    (first_small p.0.held c.args.i p.1 p.2 _ c.at-id.ensures, held_length p.0.held)

pub remove-left-requires : goal.remove-left-requires
remove-left-requires c =
    let p = c.requires in
    queue_held p.0.held c.args.i p.1 p.2 _

pub returns : goal.returns
returns c =
    let a = c.args in
    let p = c.requires in
    write_ends p.0.held a.i p.1 p.2 _ c.at-id.ensures a.error a.map c.remove-left.ensures c.with_writes-d.ensures c.put_channel-t.ensures c.clear.ensures c.put-at.ensures.1 c.put-at.ensures.0
