-- `wait` meets its contract: its id stands at its place, and its entry is written. Assumes nothing.
use Rattle.answers.proofs.store.Store.{held_length, waiting-count, waiting-small}
use Rattle.joining.proofs.Joining.{wait_few, wait_place, wait-told}
use Rattle.joining.proofs.wait.Goals as goal

pub place-k-requires : goal.place-k-requires
place-k-requires c = let h = c.requires.0 in ((waiting-count h).1, waiting-small h, held_length h)

pub insert-q2-requires : goal.insert-q2-requires
insert-q2-requires c =
    let p = c.requires in
    (wait_place p.0 c.args.r c.args.combos.now c.place-k.ensures, wait_few p.0 c.args.r c.args.combos.now p.2 p.3)

pub put_all-requires : goal.put_all-requires
put_all-requires c = let p = c.requires in (p.2, held_length p.0, p.1)

pub returns : goal.returns
returns c =
    let p = c.requires in
    wait-told p.0 c.args.r c.args.combos.now p.1 p.2 p.3 c.place-k.ensures c.insert-q2.ensures c.put_all.ensures c.pending-a.ensures
