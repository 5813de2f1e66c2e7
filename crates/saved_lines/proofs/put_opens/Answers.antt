-- `put_opens` meets its contract: after i turns the lines of the first i keys stand there. Assumes nothing.
use mathlib.Core.Path.{ap, sym}
use mathlib.Core.List.{map}
use native.Mathlib.Omega.{arith}
use lib.ListN.{get_or}
use lib.Seq.{take_all}
use Rattle.open_keys.specs.OpenKeys.{keys_in}
use Rattle.saved_channels.specs.saved.Saved.{OPEN, key_frame, spelt}
use Rattle.saved_channels.proofs.hex_lines.HexLines.{length_line}
use Rattle.saved_channels.proofs.frame_lines.FrameLines.{spelt_more, room_more, put_none, put_then, put_as}
use Rattle.saved_lines.proofs.put_opens.Goals as goal

pub loop-key-init : goal.loop-key-init
unfolding spelt
loop-key-init c = put_none c.args.out.now c.args.at

pub put_key-p-requires : goal.put_key-p-requires
unfolding key_frame
put_key-p-requires c =
    let l = c.loop-key in
    let xs = keys_in c.args.q in
    let r = room_more (key_frame OPEN) xs l.key-index 0 c.loop-key-test.true in
    let s = length_line (key_frame OPEN (get_or xs l.key-index 0)) in
    let n = l.invariant.next in
    let o = l.auto.out in
    let f = c.requires.2 in
    omega arith

pub loop-key-preserved : goal.loop-key-preserved
loop-key-preserved c =
    let l = c.loop-key in
    let xs = keys_in c.args.q in
    let h = c.loop-key-test.true in
    let r = room_more (key_frame OPEN) xs l.key-index 0 h in
    let f = c.requires.2 in
    put_as (put_then l.invariant c.put_key-p.ensures (omega arith)) (sym (spelt_more (key_frame OPEN) xs l.key-index 0 h))

pub returns : goal.returns
returns c =
    let l = c.loop-key in
    put_as l.invariant (ap (λ xs. spelt (map (key_frame OPEN) xs)) (take_all l.key-index (keys_in c.args.q) (omega arith)))
