-- `feed` meets its contract: without an LF the line goes on, and with one it is answered as it stands. Assumes nothing.
use mathlib.Core.Path.{sym}
use native.Mathlib.Omega.{arith}
use borrow.Author.Tests.{not-true, not-false}
use Rattle.telling.proofs.admitting.Laws.{allowed}
use Rattle.telling.proofs.Laws.{is_served}
use Rattle.fragments.proofs.Laws.{open_moves, ended-moves, gathered-within, gathered-length, gathered-used, open_used}
use Rattle.fragments.proofs.feed.Goals as goal

pub started-n-requires : goal.started-n-requires
started-n-requires c = (allowed _ _ _ c.in_default.ensures).0.long

pub line_in-line-requires : goal.line_in-line-requires
line_in-line-requires c = (allowed _ _ _ c.in_default.ensures).0.long

pub keep-requires : goal.keep-requires
keep-requires c =
    let w = (let a = c.args in
    gathered-within a.port.now a.fragment.now c.line_in-line.ensures c.started-n.ensures c.gather-g.ensures (allowed _ _ _ c.in_default.ensures).0.few) in let q = (allowed _ _ _ c.in_default.ensures).0 in let f = q.few in let s = c.started-n.ensures in (q.long, omega arith)

pub returns-then-not-g : goal.returns-then-not-g
returns-then-not-g c =
    let a = c.args in
    let n = not-true _ c.if-not-g.true in
    let u = gathered-used a.port.now a.fragment.now c.line_in-line.ensures c.started-n.ensures c.gather-g.ensures in
    let v = open_used a.port.now a.fragment.now c.line_in-line.ensures c.started-n.ensures c.gather-g.ensures n in
    let m = (let a = c.args in
    gathered-within a.port.now a.fragment.now c.line_in-line.ensures c.started-n.ensures c.gather-g.ensures (allowed _ _ _ c.in_default.ensures).0.few) in
    is_served c.in_default.ensures (omega arith)
    (open_moves a.port.now a.fragment.now c.line_in-line.ensures c.started-n.ensures c.gather-g.ensures _ n (omega arith) (omega arith) (omega arith) c.keep.ensures)

pub keep-requires-2 : goal.keep-requires-2
keep-requires-2 c =
    let w = (let a = c.args in
    gathered-within a.port.now a.fragment.now c.line_in-line.ensures c.started-n.ensures c.gather-g.ensures (allowed _ _ _ c.in_default.ensures).0.few) in ((allowed _ _ _ c.in_default.ensures).0.long, omega arith)

pub slice_bounds-answer-end : goal.slice_bounds-answer-end
slice_bounds-answer-end c =
    sym ((let a = c.args in
    gathered-length a.port.now a.fragment.now c.line_in-line.ensures c.started-n.ensures c.gather-g.ensures (allowed _ _ _ c.in_default.ensures).0))

pub answer-written-requires : goal.answer-written-requires
answer-written-requires c =
    let k = (let a = c.args in
    gathered-within a.port.now a.fragment.now c.line_in-line.ensures c.started-n.ensures c.gather-g.ensures (allowed _ _ _ c.in_default.ensures).0.few) in
    let l = (let a = c.args in
    gathered-length a.port.now a.fragment.now c.line_in-line.ensures c.started-n.ensures c.gather-g.ensures (allowed _ _ _ c.in_default.ensures).0) in
    let p = (allowed _ _ _ c.in_default.ensures) in
    (omega arith, p.1, p.2)

pub returns : goal.returns
returns c =
    let a = c.args in
    let u = gathered-used a.port.now a.fragment.now c.line_in-line.ensures c.started-n.ensures c.gather-g.ensures in
    let m = (let a = c.args in
    gathered-within a.port.now a.fragment.now c.line_in-line.ensures c.started-n.ensures c.gather-g.ensures (allowed _ _ _ c.in_default.ensures).0.few) in
    is_served c.in_default.ensures (omega arith)
    (ended-moves a.port.now a.fragment.now c.line_in-line.ensures c.started-n.ensures c.gather-g.ensures (not-false _ c.if-not-g.false) (omega arith) (omega arith) c.keep-2.ensures (omega arith) (omega arith) (omega arith) c.answer-written.ensures)
