-- `change_named` meets its contract: the channels done and the change of the rest make the change. Assumes nothing.
use Prim.Native.Nat.{◌<◌}
use mathlib.Core.Path.{sym, ◌∙◌}
use native.Mathlib.Omega.{arith}
use lib.ListN.{length, length-set}
use lib.Seq.{set-get_or}
use Rattle.machine_laws.specs.machine.State.{free}
use Rattle.channel.specs.Channel.{channel_of}
use Rattle.channel.proofs.Turns.{change_start, change-named, change-passed, change_end}
use borrow.Author.Rules.{rules}
use Rattle.channel.proofs.change_named.Goals as goal
use Rattle.channel.proofs.change_named.Goals.{then-names, else-names}

pub loop-i-init : goal.loop-i-init
loop-i-init c = (search rules, change_start _ _ _)

pub loop-i-preserved : goal.loop-i-preserved
loop-i-preserved c =
    let l = c.loop-i in
    let e = c.names.ensures in
    let h : l.i < length l.d-items = omega arith in
    elim c.if-names.branch [
      | then-names w ↦ rw (w.d-items-is, w.changed.ensures) (length-set l.d-items _ _ ∙ l.invariant.0, change-named _ _ l.d-items l.i _ h (sym e ∙ w.if-names.true) ∙ l.invariant.1)
      | else-names w ↦ rw (w.d-items-is, set-get_or) (l.invariant.0, change-passed _ _ l.d-items l.i (channel_of free) h (sym e ∙ w.if-names.false) ∙ l.invariant.1)
    ]

pub returns : goal.returns
returns c =
    let l = c.loop-i in
    sym (change_end _ _ l.i l.d-items (omega arith)) ∙ l.invariant.1
