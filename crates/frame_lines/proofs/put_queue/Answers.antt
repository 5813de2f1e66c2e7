-- `put_queue` meets its contract: after i turns the lines of the first i requests stand there. Assumes nothing.
use borrow.Author.Rules.{rules}
use Prim.Native.Nat.{◌<◌}
use mathlib.Core.Path.{◌≡◌, refl, ap, sym}
use mathlib.Core.List.{map}
use native.Mathlib.Omega.{arith}
use lib.ListN.{length, take, length-take}
use lib.Seq.{take_all}
use Rattle.open_keys.specs.queue.Queue.{list_of}
use Rattle.std.proofs.Common.{get_or-take}
use Rattle.saved.specs.Saved.{spelt}
use Rattle.frame_lines.specs.FrameLines.{entry_frame}
use Rattle.frame_lines.proofs.FrameLines.{spelt_more, room_more, put_none, put_then, put_as}
use Rattle.frame_lines.proofs.put_queue.Goals as goal

pub loop-id-init : goal.loop-id-init
unfolding spelt
loop-id-init c = put_none c.args.out.now c.args.at

pub put_entry-p-requires : goal.put_entry-p-requires
put_entry-p-requires c =
    let l = c.loop-id in
    let a = c.args in
    let xs = list_of a.q in
    let h : l.id-index < length xs = c.loop-id-test.true in
    let m = length-take a.q.n a.q.ids in
    let k : l.id-index < a.q.n = omega arith in
    let g = get_or-take a.q.n a.q.ids l.id-index 0 k in
    let r = room_more (entry_frame a.first a.channel a.table.now) xs l.id-index 0 h in
    let n = l.invariant.next in
    let o = l.auto.out in
    let f = c.requires.1 in
    (rw g (c.requires.0.0.small l.id-index k), c.requires.0.0.long, rw g (c.requires.0.0.lists l.id-index k), omega arith)

pub loop-id-preserved : goal.loop-id-preserved
loop-id-preserved c =
    let l = c.loop-id in
    let a = c.args in
    let xs = list_of a.q in
    let f = entry_frame a.first a.channel a.table.now in
    let h : l.id-index < length xs = c.loop-id-test.true in
    let r = room_more f xs l.id-index 0 h in
    put_as (put_then l.invariant c.put_entry-p.ensures (omega arith)) (sym (spelt_more f xs l.id-index 0 h))

pub returns : goal.returns
returns c =
    let l = c.loop-id in
    let a = c.args in
    put_as l.invariant (ap (λ xs. spelt (map (entry_frame a.first a.channel a.table.now) xs)) (take_all l.id-index (list_of a.q) (omega arith)))
