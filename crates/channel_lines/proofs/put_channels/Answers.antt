-- `put_channels` meets its contract: after i turns the lines of the first i channels stand in front. Assumes nothing.
use mathlib.Core.Path.{refl, ap, sym, ◌∙◌}
use native.Mathlib.Omega.{arith}
use lib.Seq.{take_all}
use Rattle.spelling.specs.memory.Splice.{splice}
use Rattle.spelling.proofs.memory.Splice.{splice_none}
use Rattle.channel_lines.specs.ChannelLines.{channel_lines}
use Rattle.channel_lines.proofs.ChannelLines.{channel_turn}
use Rattle.channel_lines.proofs.put_channels.Goals as goal

pub loop-i-init : goal.loop-i-init
unfolding channel_lines
loop-i-init c = (refl, sym (splice_none _ _))

pub loop-i-preserved : goal.loop-i-preserved
loop-i-preserved c =
    let l = c.loop-i in
    let a = c.args in
    (omega arith, rw (c.put_channel.ensures, l.invariant.1) (channel_turn a.out.now a.cs.now l.i _ c.loop-i-test.true (omega arith)))

pub returns : goal.returns
returns c =
    let l = c.loop-i in
    let a = c.args in
    l.invariant.1 ∙ ap (λ cs. splice a.out.now 0 (channel_lines 0 cs)) (take_all l.i a.cs.now (omega arith))
