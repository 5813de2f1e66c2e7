-- `cancel` meets its contract: the id's only place is left, its entry cleared and its reply sent; who waits for a cycle of it follows. Assumes nothing.
use mathlib.Core.Path.{refl}
use native.Mathlib.Omega.{arith}
use Rattle.answers.proofs.store.Store.{held_length}
use Rattle.leaving.proofs.Queues.{tidy-channels, tidy-waiters, tidy-waiting}
use Rattle.aborting.proofs.Steps.{cancelled, abort_sifts, cancel_told}
use Rattle.aborting.proofs.cancel.Goals as goal

pub key-key-requires : goal.key-key-requires
key-key-requires c = let p = c.requires in (p.1, held_length p.0.held)

pub clear-requires : goal.clear-requires
clear-requires c = let p = c.requires in (p.1, held_length p.0.held)

pub leave-t-requires : goal.leave-t-requires
leave-t-requires c = let h = c.requires.0.held in (tidy-channels h, tidy-waiters h, tidy-waiting h)

pub sift-f-requires : goal.sift-f-requires
sift-f-requires c =
    let p = c.requires in
    let h = p.0.held in
    let u = c.put-n in
    let e = cancelled h c.args.r p.1 p.2 p.3 in
    abort_sifts h c.args.r p.1 e c.which-m.ensures c.leave-t.ensures c.clear.ensures (let z = u.auto.list in let l = p.0.room in omega arith) u.ensures.0

pub returns : goal.returns
returns c =
    let p = c.requires in
    let h = p.0.held in
    let u = c.put-n.ensures in
    let t = c.leave-t in
    let f = c.sift-f in
    let e = cancelled h c.args.r p.1 p.2 p.3 in
    cancel_told h c.args.r p.1 e c.which-m.ensures _ t.ensures c.clear.ensures p.0.room u.0 u.1 p.2 c.key-key.ensures f.ensures refl c.done-a.ensures
