-- `abort_writes` meets its contract: with some writes replied and idle, doing the rest gives the whole. Assumes nothing.
use Prim.Native.Nat.{◌≤◌, ◌<◌}
use mathlib.Core.Path.{sym, ◌∙◌}
use lib.ListN.{length, take}
use Rattle.dropped_writes.proofs.Turns.{aborting_start, aborting_turn, aborting_end, aborting_room, small_at}
use borrow.Author.Rules.{rules}
use Rattle.dropped_writes.proofs.abort_writes.Goals as goal

pub loop-id-init : goal.loop-id-init
loop-id-init c = aborting_start _ _ _ _ _ c.requires.1

pub put-at-requires : goal.put-at-requires
put-at-requires c = aborting_room c.loop-id.invariant c.loop-id-test.true c.requires.2

pub clear-requires : goal.clear-requires
clear-requires c =
    let l = c.loop-id in
    let q = c.args.c.writes in
    (small_at (take q.n q.ids) l.id-index c.requires.0.1 c.loop-id-test.true, l.invariant.tall)

pub loop-id-preserved : goal.loop-id-preserved
loop-id-preserved c =
    let p = c.put-at.ensures in
    rw (c.clear.ensures, p.0, p.1) (aborting_turn c.loop-id.invariant c.requires.0.1 c.loop-id-test.true c.requires.2)

pub returns : goal.returns
returns c = aborting_end c.loop-id.invariant (search rules)
