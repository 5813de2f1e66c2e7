-- `tune_named` meets its contract: with the channels before i done, doing the rest gives the whole. Assumes nothing.
use Prim.Native.Nat.{◌<◌}
use mathlib.Core.Path.{sym, ◌∙◌}
use lib.ListN.{length}
use Rattle.answers.specs.machine.State.{free}
use Rattle.channel.specs.Channel.{channel_of}
use Rattle.tuning.proofs.Turns.{tuning_start, tuning_front, tuning-named, tuning-passed, tuning_end}
use borrow.Author.Rules.{rules}
use Rattle.tuning.proofs.tune_named.Goals.{else-names, then-names}
use Rattle.tuning.proofs.tune_named.Goals as goal

pub loop-i-init : goal.loop-i-init
loop-i-init c = tuning_start _ _ _ _ _ c.requires.0 c.requires.1

pub tune-requires : goal.tune-requires
tune-requires c =
    let l = c.loop-i in
    let h : l.i < length c.args.cs = search rules in
    let f = tuning_front _ l.invariant h (sym c.names.ensures ∙ c.if-names.true) in
    rw c.at.ensures (f.0, l.invariant.tall, f.1)

pub loop-i-preserved : goal.loop-i-preserved
loop-i-preserved c =
    let l = c.loop-i in
    let e = c.names.ensures in
    let h : l.i < length c.args.cs = search rules in
    elim c.if-names.branch [
      | then-names w ↦ rw (w.table-is, w.tune.ensures, w.at.ensures) (tuning-named _ l.invariant h (sym e ∙ w.if-names.true))
      | else-names w ↦ rw w.table-is (tuning-passed (channel_of free) l.invariant h (sym e ∙ w.if-names.false))
    ]

pub shape_of-table : goal.shape_of-table
shape_of-table c = c.loop-i.invariant.tall ∙ sym c.requires.0

pub returns : goal.returns
returns c = tuning_end c.loop-i.invariant (search rules)
