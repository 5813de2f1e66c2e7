-- `read` meets its contract: what the lines that are left make of what was read so far is what all make of a fresh state. Assumes nothing.
use Prim.Native.Nat.{ℕ, ◌+◌, ◌-◌, ◌≤◌, ◌<◌}
use mathlib.Core.Path.{◌≡◌, refl, ap, sym, ◌∙◌}
use mathlib.Core.List.{List}
use native.Mathlib.Omega.{arith}
use lib.ListN.{length, take, drop, replicate}
use lib.Seq.{length-take-le}
use Rattle.memory.proofs.Splice.{length-splice}
use Rattle.gathering.specs.Lumps.{front}
use Rattle.hex_lines.specs.HexLines.{octets_of}
use Rattle.saved_frames.specs.sheet.Sheet.{Sheet, sheet, taken, taken_all}
use Rattle.reading.specs.Reading.{frames_in}
use Rattle.reading.proofs.Turns.{octets_most, front_put, end_within, line_is_front, sheet_turn, after, still_eight, fresh-eight, from_fresh, at_end}
use borrow.Author.Rules.{rules}
use Rattle.reading.proofs.read.Goals as goal

pub loop-at-init : goal.loop-at-init
loop-at-init c =
    let a = c.args in
    let h = c.requires in
    (h.0, h.1, refl, fresh-eight c.fresh-s.result c.fresh-s.ensures, from_fresh c.fresh-s.result (drop a.from a.text.now) a.table.now c.fresh-s.ensures)

pub overflow_add-e : goal.overflow_add-e
overflow_add-e c =
    let l = c.loop-at in
    let a = c.args in
    omega (arith, end_within a.text.now l.at c.end_of.result (let z : l.at < length a.text.now = omega arith in z) c.end_of.ensures)

pub slice_bounds-octets-end : goal.slice_bounds-octets-end
slice_bounds-octets-end c =
    let l = c.loop-at in
    let a = c.args in
    omega (arith, end_within a.text.now l.at c.end_of.result (let z : l.at < length a.text.now = omega arith in z) c.end_of.ensures)

pub slice_bounds-f-end : goal.slice_bounds-f-end
slice_bounds-f-end c =
    let l = c.loop-at in
    let a = c.args in
    let n = c.end_of.result in
    omega (arith, c.octets-n.ensures.0, octets_most (take (l.at + n - l.at) (drop l.at a.text.now)))

pub slice_bounds-take-end : goal.slice_bounds-take-end
slice_bounds-take-end c =
    let l = c.loop-at in
    let a = c.args in
    let n = c.end_of.result in
    let o = c.octets-n in
    let m = octets_most (take (l.at + n - l.at) (drop l.at a.text.now)) in
    let e = length-splice (replicate 23 0) 0 (octets_of (take (l.at + n - l.at) (drop l.at a.text.now))) (omega arith) in
    let f : length o.new.f ≡ 23 = ap length o.ensures.1 ∙ e in
    let g = o.ensures.0 in
    sym (length-take-le o.result o.new.f (let z : o.result ≤ length o.new.f = omega (arith, g, f, m) in z))

pub loop-at-preserved : goal.loop-at-preserved
loop-at-preserved c =
    let a = c.args in
    let l = c.loop-at in
    let h : l.at < length a.text.now = c.loop-at-test.true in
    let n = c.end_of in
    let o = c.octets-n in
    let t = c.take-r in
    let b = c.behind-at in
    let text = a.text.now in
    let line = take (l.at + n.result - l.at) (drop l.at text) in
    let f = take o.result o.new.f in
    let x = sheet l.d.state l.d.seen l.table l.kept in
    let e : f ≡ octets_of (front (drop l.at text)) =
    rw o.ensures.1 (front_put (replicate 23 0) (octets_of line) o.result o.ensures.0) ∙ ap octets_of (line_is_front text l.at n.result (l.at + n.result) n.ensures refl) in
    let y = after f l.d t.result l.table l.kept _ _ t.ensures ∙ ap (λ (g : List ℕ). taken g x) e in (
      omega (arith, b.ensures),
      search rules,
      search rules,
      still_eight f l.d t.result l.table l.kept _ _ t.ensures l.invariant.3,
      ap (taken_all (frames_in (drop b.result text))) y ∙ (sym (sheet_turn text l.at n.result b.result x h n.ensures b.ensures) ∙ l.invariant.4),
    )

pub returns : goal.returns
returns c =
    let l = c.loop-at in
    let a = c.args in
    let e = at_end a.text.now l.at (sheet l.d.state l.d.seen l.table l.kept) _ (let z : length a.text.now ≤ l.at = omega arith in z) l.invariant.4 in
    record { state = ap (λ (x : Sheet). x.state) e; table = ap (λ (x : Sheet). x.table) e }
