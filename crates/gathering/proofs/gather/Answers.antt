-- `gather` meets its contract: what is copied is the front of the input as far as the line has room, and an LF stands behind
-- the front or the front is all. Assumes nothing.
use Prim.Native.Nat.{◌-◌, ◌≤◌, ◌<◌}
use mathlib.Core.Path.{◌≡◌, sym, ◌∙◌}
use native.Mathlib.Omega.{arith}
use lib.ListN.{length, length-take}
use lib.Seq.{length-take-le}
use Rattle.memory.proofs.Splice.{splice_none}
use Rattle.gathering.specs.Lumps.{front}
use Rattle.gathering.proofs.Lumps.{front_within, gathers_ended, gathers_open}
use borrow.Author.Rules.{rules}
use Rattle.gathering.proofs.gather.Goals as goal
use Rattle.gathering.proofs.gather.Goals.{then-k-gt0, else-k-gt0}

pub slice_bounds-copy-end-then-k-gt0 : goal.slice_bounds-copy-end-then-k-gt0
slice_bounds-copy-end-then-k-gt0 c =
    let a = c.args in
    let e = c.end_of-end.ensures in
    let k = c.kept-k in
    let h : k.result ≤ length (front a.input.now) = rw e at k.ensures.0 in
    let w = front_within a.input.now in
    sym (length-take-le k.result a.input.now (omega arith))

pub copy-requires : goal.copy-requires
copy-requires c =
    let a = c.args in
    let k = c.kept-k in
    let g : length a.line.now ≡ 527 = search rules in
    let t : 0 < k.result = c.if-k-gt0.true in
    let m : k.result ≤ 527 - a.n = k.ensures.1 in
    let l = length-take k.result a.input.now in
    rw g (omega arith)

pub returns-then-end-input : goal.returns-then-end-input
returns-then-end-input c =
    let a = c.args in
    let e = c.end_of-end in
    let k = c.kept-k in
    let t : e.result < length a.input.now = c.if-end-input.true in
    rw e.ensures
    (gathers_ended a.n a.input.now k.result (rw e.ensures at k.ensures.0) k.ensures.1 (rw e.ensures at k.ensures.2)
    a.line.now c.if-k-gt0.line (elim c.if-k-gt0.branch [
      | then-k-gt0 w ↦ w.line-is ∙ w.copy.ensures
      | else-k-gt0 w ↦ (let z : c.kept-k.result ≡ 0 = (let y : c.kept-k.result ≤ 0 = w.if-k-gt0.false in omega arith) in w.line-is ∙ rw z (sym (splice_none a.line.now a.n)))
    ]) (rw e.ensures at t))

pub returns : goal.returns
returns c =
    let a = c.args in
    let e = c.end_of-end in
    let k = c.kept-k in
    let t : length a.input.now ≤ e.result = c.if-end-input.false in
    rw e.ensures
    (gathers_open a.n a.input.now k.result (rw e.ensures at k.ensures.0) k.ensures.1 (rw e.ensures at k.ensures.2)
    a.line.now c.if-k-gt0.line (elim c.if-k-gt0.branch [
      | then-k-gt0 w ↦ w.line-is ∙ w.copy.ensures
      | else-k-gt0 w ↦ (let z : c.kept-k.result ≡ 0 = (let y : c.kept-k.result ≤ 0 = w.if-k-gt0.false in omega arith) in w.line-is ∙ rw z (sym (splice_none a.line.now a.n)))
    ]) (rw e.ensures at t))
