-- `put_keys` meets its contract: the last key stands behind the open ones. Assumes nothing.
use native.Mathlib.Omega.{arith}
use Rattle.saved_channels.proofs.frame_lines.FrameLines.{put_then}
use Rattle.saved_channels.proofs.frame_lines.FramesIn.{keys_length}
use Rattle.saved_lines.proofs.put_keys.Goals as goal

pub put_opens-p-requires : goal.put_opens-p-requires
put_opens-p-requires c =
    let n = keys_length c.args.opens c.args.last in
    let r = c.requires.2 in
    (c.requires.0, c.requires.1, omega arith)

pub put_key-requires : goal.put_key-requires
put_key-requires c =
    let n = keys_length c.args.opens c.args.last in
    let r = c.requires.2 in
    let n1 = c.put_opens-p.ensures.next in
    omega arith

pub returns : goal.returns
returns c =
    let n = keys_length c.args.opens c.args.last in
    let r = c.requires.2 in
    put_then c.put_opens-p.ensures c.put_key.ensures (omega arith)
