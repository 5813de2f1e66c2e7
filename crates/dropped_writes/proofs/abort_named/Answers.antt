-- `abort_named` meets its contract: with the channels before i done, doing the rest gives the whole. Assumes nothing.
use Prim.Native.Nat.{◌<◌}
use mathlib.Core.Path.{sym, ◌∙◌}
use native.Mathlib.Omega.{arith}
use lib.ListN.{length}
use Rattle.machine.specs.State.{free}
use Rattle.channel.specs.Channel.{channel_of}
use Rattle.dropped_writes.proofs.Turns.{in_start, in_room, in_named, in_passed, in_end, in_fits, writable_at}
use borrow.Author.Rules.{rules}
use Rattle.dropped_writes.proofs.abort_named.Goals.{else-names, then-names}
use Rattle.dropped_writes.proofs.abort_named.Goals as goal

pub loop-i-init : goal.loop-i-init
loop-i-init c = in_start _ _ _ _ _ c.requires.1

pub abort_writes-at-requires : goal.abort_writes-at-requires
abort_writes-at-requires c =
    let l = c.loop-i in
    let e = sym c.names.ensures ∙ c.if-names.true in
    let h : l.i < length c.args.cs = search rules in
    (writable_at c.args.cs l.i _ c.requires.0 h, l.invariant.tall, in_room _ l.invariant h e (in_fits _ _ _ c.args.cs _ c.requires.2))

pub loop-i-preserved : goal.loop-i-preserved
loop-i-preserved c =
    let l = c.loop-i in
    let e = c.names.ensures in
    let h : l.i < length c.args.cs = search rules in
    elim c.if-names.branch [
      | then-names w ↦ let p = w.abort_writes-at.ensures in
          rw (w.at-is, w.replies-is, w.table-is, p.0, p.1, p.2) (in_named _ l.invariant h (sym e ∙ w.if-names.true) c.requires.0 (in_fits _ _ _ c.args.cs _ c.requires.2))
      | else-names w ↦ rw (w.at-is, w.replies-is, w.table-is) (in_passed (channel_of free) l.invariant h (sym e ∙ w.if-names.false))
    ]

pub shape_of-table : goal.shape_of-table
shape_of-table c = c.loop-i.invariant.tall ∙ sym c.requires.1

pub shape_of-replies : goal.shape_of-replies
shape_of-replies c = c.loop-i.invariant.long

pub returns : goal.returns
returns c =
    let l = c.loop-i in
    in_end l.invariant (search rules)
