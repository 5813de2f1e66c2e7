-- `put_numbers` meets its contract: after i turns the lines of the first i channels stand there. Assumes nothing.
use mathlib.Core.Path.{◌≡◌, ap}
use native.Mathlib.Omega.{arith}
use Rattle.saved2.specs.saved.Saved.{spelt}
use Rattle.frame_lines.proofs.FrameLines.{put_none, put_then, put_as}
use Rattle.number_lines.specs.NumberLines.{number_lines}
use Rattle.number_lines.proofs.NumberLines.{lines_nine, lines_more}
use Rattle.number_lines.proofs.put_numbers.Goals as goal

pub loop-i-init : goal.loop-i-init
unfolding spelt number_lines
loop-i-init c = put_none c.args.out.now c.args.at

pub put_number-p-requires : goal.put_number-p-requires
put_number-p-requires c =
    let l = c.loop-i in
    let n = lines_nine l.i c.args.display.now in
    let k = l.invariant.next in
    let o = l.auto.out in
    let f = c.requires.2 in
    (omega arith, c.requires.1, omega arith)

pub loop-i-preserved : goal.loop-i-preserved
loop-i-preserved c =
    let l = c.loop-i in
    let n = lines_nine l.i c.args.display.now in
    let f = c.requires.2 in
    put_as (put_then l.invariant c.put_number-p.ensures (omega arith)) (lines_more l.i c.args.display.now)

pub returns : goal.returns
returns c =
    let l = c.loop-i in
    let e : l.i ≡ c.args.w = omega arith in
    put_as l.invariant (ap (λ k. spelt (number_lines k c.args.display.now)) e)
