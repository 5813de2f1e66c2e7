-- `join` meets its contract: an entry with the numbers written, an id at the back of a queue. Assumes nothing.
use mathlib.Core.Path.{ap, ◌∙◌}
use native.Mathlib.Omega.{arith}
use lib.ListN.{length}
use Rattle.answers.proofs.store.Store.{held_length, numbers-long}
use Rattle.memory.specs.Splice.{splice}
use Rattle.writing.proofs.Steps.{entry_of, write_room, join_struct}
use Rattle.writing.proofs.join.Goals as goal

pub put_all-requires : goal.put_all-requires
put_all-requires c =
    let e = ap length c.of-b.ensures ∙ numbers-long _ in
    (c.requires.3, held_length c.requires.0, omega arith)

pub push-q2-requires : goal.push-q2-requires
push-q2-requires c =
    let p = c.requires in
    rw p.2 (write_room p.0 c.args.r c.args.combos.now p.3 p.4 c.args.i _ p.1)

pub returns : goal.returns
returns c =
    let p = c.requires in
    let ms = c.args.combos.now in (
      join_struct p.0 c.args.r ms p.3 p.4 c.args.i c.args.c p.1 p.2 c.push-q2.ensures c.with_writes-d.ensures c.put_channel.ensures,
      c.put_all.ensures ∙ ap (splice _ _) (entry_of _ _ ms _ c.of-b.ensures),
    )
