-- `put_writes` meets its contract: after i turns the writes of the first i channels stand there. Assumes nothing.
use mathlib.Core.Path.{ap, sym}
use native.Mathlib.Omega.{arith}
use lib.ListN.{take}
use lib.Seq.{take_all}
use Rattle.store.specs.machine.State.{free}
use Rattle.channel.specs.Channel.{channel_of}
use Rattle.frame_lines.specs.saved.Saved.{spelt}
use Rattle.frame_lines.specs.FrameLines.{writes_in}
use Rattle.frame_lines.proofs.FrameLines.{listed_taken, writes_step, writes_room, writes_fit, put_none, put_then, put_as}
use Rattle.saved_requests.proofs.put_writes.Goals as goal

pub loop-i-init : goal.loop-i-init
unfolding spelt writes_in
loop-i-init c = put_none c.args.out.now c.args.at

pub put_queue-p-requires : goal.put_queue-p-requires
put_queue-p-requires c =
    let l = c.loop-i in
    let a = c.args in
    let h = c.loop-i-test.true in
    (listed_taken a.table.now a.cs a.w l.i _ c.requires.1 c.requires.0 h, writes_fit a.table.now (take a.w a.cs) l.i _ a.at h l.invariant.next c.requires.2 l.auto.out)

pub loop-i-preserved : goal.loop-i-preserved
loop-i-preserved c =
    let l = c.loop-i in
    let a = c.args in
    let h = c.loop-i-test.true in
    let r = writes_room a.table.now (take a.w a.cs) l.i (channel_of free) h in
    let f = c.requires.2 in
    put_as (put_then l.invariant c.put_queue-p.ensures (omega arith)) (sym (writes_step a.table.now (take a.w a.cs) l.i _ h))

pub returns : goal.returns
returns c =
    let l = c.loop-i in
    let a = c.args in
    put_as l.invariant (ap (λ xs. spelt (writes_in a.table.now 0 xs)) (take_all l.i (take a.w a.cs) (omega arith)))
