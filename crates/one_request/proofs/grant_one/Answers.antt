-- `grant_one` meets its contract: the request is taken out, its map granted, then it is replied. Assumes nothing.
use mathlib.Core.Path.{◌∙◌}
use native.Mathlib.Omega.{arith}
use Rattle.locks.proofs.store.Store.{held_length, waiting-count}
use Rattle.waiting.proofs.Waiting.{id-small}
use Rattle.one_request.proofs.Steps.{key_is, prec_is, out_ready, out_room, out_granted}
use Rattle.one_request.proofs.grant_one.Goals as goal

pub at-id-requires : goal.at-id-requires
at-id-requires c = let p = c.requires in let w = (waiting-count p.0.held).1 in omega (arith, p.1)

pub key-key-requires : goal.key-key-requires
key-key-requires c =
    let p = c.requires in
    (rw c.at-id.ensures (id-small p.0.held c.args.i p.1), held_length p.0.held)

pub prec-prec-requires : goal.prec-prec-requires
prec-prec-requires c =
    let p = c.requires in
    (rw c.at-id.ensures (id-small p.0.held c.args.i p.1), held_length p.0.held)

pub take_out-t-requires : goal.take_out-t-requires
take_out-t-requires c = let p = c.requires in (p.0.held, p.1)

pub grant-g-requires : goal.grant-g-requires
grant-g-requires c =
    let t = c.take_out-t.ensures in
    out_ready c.requires.0.held c.args.i t.0 t.1 c.args.map c.requires.0.room c.requires.0.fits

pub put-at-requires : goal.put-at-requires
put-at-requires c =
    let t = c.take_out-t.ensures in
    out_room c.requires.0.held c.args.i t.0 t.1 c.requires.0.room c.requires.0.fits c.grant-g.ensures

pub returns : goal.returns
returns c =
    let h = c.requires.0.held in
    let i = c.args.i in
    let w = c.requires.1 in
    let t = c.take_out-t.ensures in
    let a = c.at-id.ensures in
    let k = c.key-key.ensures in
    let p = c.prec-prec.ensures in
    let u = c.put-at.ensures in
    out_granted h i t.0 t.1 w c.requires.0.room c.requires.0.fits c.grant-g.ensures (k ∙ key_is h i w _ a) (p ∙ prec_is h i w _ a) a u.1 u.0
