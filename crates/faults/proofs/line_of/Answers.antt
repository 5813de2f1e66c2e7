-- `line_of` meets its contract: the bytes in front of the room are those that the line spells. Assumes nothing.
use Prim.Native.Nat.{◌≤◌}
use mathlib.Core.Path.{◌≡◌, ap, sym, ◌∙◌}
use native.Mathlib.Omega.{arith}
use lib.ListN.{length, replicate}
use lib.Seq.{length-take-le}
use Rattle.memory.proofs.Splice.{length-splice}
use Rattle.reading.specs.hex_lines.HexLines.{octets_of}
use Rattle.reading.proofs.Turns.{octets_most, front_put}
use Rattle.faults.specs.Faults.{frame_of}
use Rattle.faults.proofs.line_of.Goals as goal

pub slice_bounds-f-end : goal.slice_bounds-f-end
slice_bounds-f-end c =
    let o = c.octets-n in
    let line = c.args.line.now in
    let m = octets_most line in
    let e = length-splice (replicate 23 0) 0 (octets_of line) (omega arith) in
    let f : length o.new.f ≡ 23 = ap length o.ensures.1 ∙ e in
    let g = o.ensures.0 in
    omega arith

pub slice_bounds-frame_of-end : goal.slice_bounds-frame_of-end
slice_bounds-frame_of-end c =
    let o = c.octets-n in
    let line = c.args.line.now in
    let m = octets_most line in
    let e = length-splice (replicate 23 0) 0 (octets_of line) (omega arith) in
    let f : length o.new.f ≡ 23 = ap length o.ensures.1 ∙ e in
    let g = o.ensures.0 in
    sym (length-take-le o.result o.new.f (let z : o.result ≤ length o.new.f = omega arith in z))

pub returns : goal.returns
returns c =
    let o = c.octets-n in
    let s = c.args in
    c.frame_of.ensures
    ∙ ap (frame_of s.form s.k) (rw o.ensures.1 (front_put (replicate 23 0) (octets_of s.line.now) o.result o.ensures.0))
