-- `matching` meets its contract: the bits found and what the channels from i on add make the map. Assumes nothing.
use Rattle.machine.specs.State.{free}
use Rattle.channel.specs.Channel.{channel_of}
use Rattle.channel.proofs.Turns.{matched_start, matched_hit, matched_miss, matched_end}
use mathlib.Core.Path.{sym, ◌∙◌}
use native.Mathlib.Omega.{arith}
use Rattle.named_channels.proofs.Turning.{eight}
use Rattle.named_channels.proofs.matching.Goals.{else-hit, then-hit}
use Rattle.named_channels.proofs.matching.Goals as goal

pub loop-i-init : goal.loop-i-init
loop-i-init c = matched_start _ _ _

pub loop-i-preserved : goal.loop-i-preserved
loop-i-preserved c =
    let l = c.loop-i in
    let e = c.hit.ensures in
    let n = eight c.args.state.now in
    elim c.if-hit.branch [
      | then-hit w ↦ rw w.ok-is (matched_hit (channel_of free) l.invariant (omega arith) (omega arith) (sym e ∙ w.if-hit.true))
      | else-hit w ↦ rw w.ok-is (matched_miss (channel_of free) l.invariant (omega arith) (sym e ∙ w.if-hit.false))
    ]

pub returns : goal.returns
returns c =
    let l = c.loop-i in
    let n = eight c.args.state.now in
    matched_end l.invariant (omega arith)
