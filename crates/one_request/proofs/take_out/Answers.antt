-- `take_out` meets its contract: the id leaves its queue, and its entry is cleared. Assumes nothing.
use mathlib.Core.Path.{◌∙◌}
use native.Mathlib.Omega.{arith}
use Rattle.locks.proofs.store.Store.{held_length, waiting-count}
use Rattle.waiting.proofs.Waiting.{id-small}
use Rattle.one_request.proofs.Without.{out_struct, out_held}
use Rattle.one_request.proofs.take_out.Goals as goal

pub at-id-requires : goal.at-id-requires
at-id-requires c = let p = c.requires in let w = (waiting-count p.0).1 in omega (arith, p.1)

pub clear-requires : goal.clear-requires
clear-requires c =
    let p = c.requires in
    (rw c.at-id.ensures (id-small p.0 c.args.i p.1), held_length p.0)

pub remove-left-requires : goal.remove-left-requires
remove-left-requires c =
    let p = c.requires in
    (p.1, (waiting-count p.0).1)

pub returns : goal.returns
returns c =
    let p = c.requires in (
      rw c.remove-left.ensures (out_struct p.0 c.args.i p.1),
      c.clear.ensures ∙ out_held p.0 c.args.i p.1 _ c.at-id.ensures,
    )
