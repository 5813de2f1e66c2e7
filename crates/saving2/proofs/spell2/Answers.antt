-- `spell2` meets its contract: the two lines in front, those of the first form, and the counted numbers stand one behind the other. Assumes nothing.
use native.Mathlib.Omega.{arith}
use Rattle.machine.specs.Log.{line}
use Rattle.number_lines.proofs.frame_lines.FrameLines.{put_as}
use Rattle.saving2.proofs.Laws2.{counted-long, within, frames_fit, text2_parts, text2-put}
use Rattle.saving2.proofs.spell2.Goals as goal

pub put_frames-p-requires : goal.put_frames-p-requires
unfolding line
put_frames-p-requires c =
    let f = frames_fit c.requires.0 in
    let n = c.put_line-p.ensures.next in
    let l = c.requires.1 in
    (c.requires.0, omega arith)

pub put_numbers-requires : goal.put_numbers-requires
unfolding line
put_numbers-requires c =
    let f = frames_fit c.requires.0 in
    let w = within c.requires.0 in
    let n = c.put_line-p.ensures.next in
    let m = c.put_frames-p.ensures.next in
    let l = c.requires.1 in
    (w, counted-long _ c.recount.ensures, omega arith)

pub returns : goal.returns
returns c =
    let f = frames_fit c.requires.0 in
    let l = c.requires.1 in
    put_as (text2-put c.args.b.width (omega arith) c.copy.ensures c.put_line-p.ensures c.put_frames-p.ensures c.put_numbers.ensures)
    (text2_parts c.requires.0 c.recount.ensures)
