-- `put_channels` meets its contract: after i turns the lines of the first i channels stand there. Assumes nothing.
use mathlib.Core.Path.{ap, sym}
use mathlib.Core.List.{map}
use native.Mathlib.Omega.{arith}
use lib.ListN.{take}
use lib.Seq.{take_all}
use Rattle.frame_lines.specs.saved.Saved.{spelt}
use Rattle.frame_lines.specs.FrameLines.{channel_line}
use Rattle.frame_lines.proofs.FrameLines.{spelt_more, listed_taken, channel_room, put_none, put_then, put_as}
use Rattle.saved_channels.proofs.put_channels.Goals as goal

pub loop-c-init : goal.loop-c-init
unfolding spelt
loop-c-init c = put_none c.args.out.now c.args.at

pub put_channel-p-requires : goal.put_channel-p-requires
put_channel-p-requires c =
    let l = c.loop-c in
    let a = c.args in
    let h = c.loop-c-test.true in
    let r = channel_room a.table.now a.cs a.w l.c-index c.requires.1 c.requires.0 h in
    let n = l.invariant.next in
    let o = l.auto.out in
    let f = c.requires.2 in
    ((listed_taken a.table.now a.cs a.w l.c-index _ c.requires.1 c.requires.0 h).0, omega arith)

pub loop-c-preserved : goal.loop-c-preserved
loop-c-preserved c =
    let l = c.loop-c in
    let a = c.args in
    let h = c.loop-c-test.true in
    let r = channel_room a.table.now a.cs a.w l.c-index c.requires.1 c.requires.0 h in
    let f = c.requires.2 in
    put_as (put_then l.invariant c.put_channel-p.ensures (omega arith)) (sym (spelt_more (channel_line a.table.now) (take a.w a.cs) l.c-index _ h))

pub returns : goal.returns
returns c =
    let l = c.loop-c in
    let a = c.args in
    put_as l.invariant (ap (λ xs. spelt (map (channel_line a.table.now) xs)) (take_all l.c-index (take a.w a.cs) (omega arith)))
