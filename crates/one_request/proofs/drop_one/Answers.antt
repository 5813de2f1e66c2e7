-- `drop_one` meets its contract: the request is taken out, then replied. Assumes nothing.
use Rattle.one_request.proofs.Steps.{told-list}
use mathlib.Core.Path.{◌∙◌}
use native.Mathlib.Omega.{arith}
use Rattle.locks.proofs.store.Store.{held_length, waiting-count}
use Rattle.waiting.proofs.Waiting.{id-small}
use Rattle.one_request.proofs.drop_one.Goals as goal

pub at-id-requires : goal.at-id-requires
at-id-requires c = let p = c.requires in let w = (waiting-count p.0.held).1 in omega (arith, p.1)

pub key-key-requires : goal.key-key-requires
key-key-requires c =
    let p = c.requires in
    (rw c.at-id.ensures (id-small p.0.held c.args.i p.1), held_length p.0.held)

pub take_out-t-requires : goal.take_out-t-requires
take_out-t-requires c = let p = c.requires in (p.0.held, p.1)

pub put-at-requires : goal.put-at-requires
put-at-requires c = let p = c.requires in omega (arith, p.0.room, p.0.fits)

pub returns : goal.returns
returns c =
    let h = c.requires.0.held in
    let t = c.take_out-t.ensures in
    let told = c.put-at.ensures in
    record {
      struct = t.0;
      table = t.1;
      list = told.1 ∙ told-list h c.args.i c.requires.1 _ c.at-id.ensures _ _ 245 0 _ c.key-key.ensures;
      count = told.0;
    }
