-- `fault` meets its contract: behind the lines that were passed, the fault is that of what is left. Assumes nothing.
use Prim.Native.Nat.{◌+◌, ◌-◌, ◌≤◌, ◌<◌}
use mathlib.Core.Path.{◌≡◌, refl, ap, sym, ◌∙◌}
use native.Mathlib.Omega.{arith}
use lib.ListN.{length, drop}
use Rattle.reading.specs.gathering.Lumps.{front}
use Rattle.reading.specs.hex_lines.HexLines.{octets_of}
use Rattle.reading.proofs.Turns.{end_within, line_is_front}
use Rattle.faults.specs.Faults.{frame_of}
use Rattle.faults.proofs.Laws.{told_some, told_none, without_end, good_line, bad_line, no_bytes, some_bytes, all_passed}
use Rattle.faults.proofs.fault.Goals as goal

pub returns-then-text-eq0 : goal.returns-then-text-eq0
returns-then-text-eq0 c = told_some (omega arith) (no_bytes _ _ c.if-text-eq0.true)

pub loop-at-init : goal.loop-at-init
loop-at-init c = (omega arith, omega arith, some_bytes _ _ c.if-text-eq0.false)

pub overflow_add-e : goal.overflow_add-e
overflow_add-e c =
    let l = c.loop-at in
    let text = c.args.text.now in
    let h : l.at < length text = c.loop-at-test.true in
    let n = c.end_of in
    let w = end_within text l.at n.result h n.ensures in
    omega arith

pub slice_bounds-line_of-end : goal.slice_bounds-line_of-end
slice_bounds-line_of-end c =
    let l = c.loop-at in
    let text = c.args.text.now in
    let h : l.at < length text = c.loop-at-test.true in
    let n = c.end_of in
    let w = end_within text l.at n.result h n.ensures in
    omega arith

pub returns-then-e-text : goal.returns-then-e-text
returns-then-e-text c =
    let l = c.loop-at in
    let text = c.args.text.now in
    let h : l.at < length text = c.loop-at-test.true in
    let n = c.end_of in
    let w = end_within text l.at n.result h n.ensures in
    told_some (omega arith) (sym (without_end _ text l.k l.at n.result h n.ensures c.if-e-text.true) ∙ l.invariant.2)

pub returns-then-not-line_of : goal.returns-then-not-line_of
returns-then-not-line_of c =
    let l = c.loop-at in
    let text = c.args.text.now in
    let h : l.at < length text = c.loop-at-test.true in
    let n = c.end_of in
    let w = end_within text l.at n.result h n.ensures in
    let f : c.line_of.result ≡ frame_of c.args.form l.k (octets_of (front (drop l.at text))) =
    c.line_of.ensures ∙ ap (λ x. frame_of c.args.form l.k (octets_of x)) (line_is_front text l.at n.result (l.at + n.result) n.ensures refl) in
    told_some (omega arith) (sym (bad_line _ text l.k l.at n.result h n.ensures c.if-e-text.false (sym f ∙ c.if-not-line_of.true)) ∙ l.invariant.2)

pub overflow_add-at : goal.overflow_add-at
overflow_add-at c =
    let l = c.loop-at in
    let text = c.args.text.now in
    let h : l.at < length text = c.loop-at-test.true in
    let n = c.end_of in
    let w = end_within text l.at n.result h n.ensures in
    let i = c.if-e-text.false in
    omega arith

pub overflow_add-k : goal.overflow_add-k
overflow_add-k c =
    let l = c.loop-at in
    let text = c.args.text.now in
    let h : l.at < length text = c.loop-at-test.true in
    let n = c.end_of in
    let w = end_within text l.at n.result h n.ensures in
    let i = c.if-e-text.false in
    omega arith

pub loop-at-smaller : goal.loop-at-smaller
loop-at-smaller c =
    let l = c.loop-at in
    let text = c.args.text.now in
    let h : l.at < length text = c.loop-at-test.true in
    let n = c.end_of in
    let w = end_within text l.at n.result h n.ensures in
    let i = c.if-e-text.false in
    omega arith

pub loop-at-preserved : goal.loop-at-preserved
loop-at-preserved c =
    let l = c.loop-at in
    let text = c.args.text.now in
    let h : l.at < length text = c.loop-at-test.true in
    let n = c.end_of in
    let w = end_within text l.at n.result h n.ensures in
    let f : c.line_of.result ≡ frame_of c.args.form l.k (octets_of (front (drop l.at text))) =
    c.line_of.ensures ∙ ap (λ x. frame_of c.args.form l.k (octets_of x)) (line_is_front text l.at n.result (l.at + n.result) n.ensures refl) in
    let i = c.if-e-text.false in (
      omega arith,
      omega arith,
      sym (good_line _ text l.k l.at n.result h n.ensures i (sym f ∙ c.if-not-line_of.false)) ∙ l.invariant.2,
    )

pub returns : goal.returns
returns c = let l = c.loop-at in told_none (all_passed _ _ l.k l.at (let z : length c.args.text.now ≤ l.at = omega arith in z) l.invariant.2)
