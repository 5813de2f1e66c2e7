-- `put_frames` meets its contract: the parts stand one behind the other, and there is room for all of them. Assumes nothing.
use native.Mathlib.Omega.{arith}
use Rattle.board.proofs.Laws.{sized-within, held_sized, held_wide, held_opens-count}
use Rattle.saved_channels.proofs.frame_lines.FrameLines.{put_then, put_as}
use Rattle.saved_channels.proofs.frame_lines.FramesIn.{all_listed, opens-length, pieces, pieces_length}
use Rattle.saved_lines.proofs.put_frames.Goals as goal

pub put_channels-p-requires : goal.put_channels-p-requires
put_channels-p-requires c =
    let h = c.requires.0 in
    let r = c.requires.1 in
    let n = pieces_length h in
    ((sized-within c.args.b.width (held_sized h)).1, all_listed (held_wide h).0, omega arith)

pub put_requests-p-requires : goal.put_requests-p-requires
put_requests-p-requires c =
    let h = c.requires.0 in
    let r = c.requires.1 in
    let n = pieces_length h in
    let n0 = c.put_channels-p.ensures.next in
    ((held_wide h).0, omega arith)

pub put_writes-p-requires : goal.put_writes-p-requires
put_writes-p-requires c =
    let h = c.requires.0 in
    let r = c.requires.1 in
    let n = pieces_length h in
    let n0 = c.put_channels-p.ensures.next in
    let n1 = c.put_requests-p.ensures.next in
    ((sized-within c.args.b.width (held_sized h)).1, all_listed (held_wide h).0, omega arith)

pub put_keys-requires : goal.put_keys-requires
put_keys-requires c =
    let h = c.requires.0 in
    let r = c.requires.1 in
    let n = pieces_length h in
    let n0 = c.put_channels-p.ensures.next in
    let n1 = c.put_requests-p.ensures.next in
    let n2 = c.put_writes-p.ensures.next in
    ((held_opens-count h).1, opens-length h, omega arith)

pub returns : goal.returns
returns c =
    let h = c.requires.0 in
    let r = c.requires.1 in
    let n = pieces_length h in
    let n0 = c.put_channels-p.ensures.next in
    let n1 = c.put_requests-p.ensures.next in
    let n2 = c.put_writes-p.ensures.next in
    put_as (put_then c.put_channels-p.ensures (put_then c.put_requests-p.ensures (put_then c.put_writes-p.ensures c.put_keys.ensures (omega arith)) (omega arith)) (omega arith)) (pieces h)
