-- `word_at` meets its contract: the combinations stand in the entry. Assumes nothing.
use Prim.Native.Nat.{ℕ}
use mathlib.Core.Path.{ap, sym, ◌∙◌}
use native.Mathlib.Omega.{arith}
use Rattle.machine.specs.State.{Request}
use Rattle.memory.specs.Splice.{block}
use Rattle.one_request.specs.table.Entry.{list_in}
use Rattle.lanes.specs.Lanes.{word_of}
use Rattle.one_request.proofs.store.Store.{held_length, waiting-count}
use Rattle.one_request.proofs.waiting.Waiting.{waiter_is}
use Rattle.one_request.proofs.waiting.Finding.{readable}
use Rattle.visiting.proofs.word_at.Goals as goal

pub at-id-requires : goal.at-id-requires
at-id-requires c = let p = c.requires in let w = (waiting-count p.0).1 in omega (arith, p.1)

pub combos-requires : goal.combos-requires
combos-requires c =
    let p = c.requires in
    let r = readable p.0 in
    (rw c.at-id.ensures (r.small c.args.i p.1), held_length p.0, rw c.at-id.ensures (r.lists c.args.i p.1))

pub returns : goal.returns
returns c =
    let tb = c.args.table.now in
    c.word.ensures
    ∙ ap word_of
    (c.combos.ensures
    ∙ (ap (λ (x : ℕ). list_in (block 23 tb x)) c.at-id.ensures
    ∙ sym (ap (λ (r : Request). r.combos) (waiter_is c.requires.0 c.args.i c.requires.1))))
