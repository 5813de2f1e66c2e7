-- `feed_end` meets its contract: what stands is answered, and nothing where nothing stands. Assumes nothing.
use mathlib.Core.Path.{ap, ◌∙◌}
use native.Mathlib.Omega.{arith}
use lib.ListN.{length, length-drop}
use Rattle.telling.proofs.admitting.Laws.{allowed}
use Rattle.telling.proofs.Laws.{is_served}
use Rattle.last_line.proofs.Laws.{none_moves, last_moves}
use Rattle.last_line.proofs.feed_end.Goals as goal

pub started-n-requires : goal.started-n-requires
started-n-requires c = (allowed _ _ _ c.in_default.ensures).0.long

pub returns-then-n-eq0 : goal.returns-then-n-eq0
returns-then-n-eq0 c =
    let s = c.started-n.ensures in
    is_served c.in_default.ensures (omega arith) (none_moves _ (allowed _ _ _ c.in_default.ensures).0 (omega arith) (omega arith))

pub line_in-last-requires : goal.line_in-last-requires
line_in-last-requires c = (allowed _ _ _ c.in_default.ensures).0.long

pub keep-requires : goal.keep-requires
keep-requires c = let q = (allowed _ _ _ c.in_default.ensures).0 in let f = q.few in let s = c.started-n.ensures in (q.long, omega arith)

pub answer-told-requires : goal.answer-told-requires
answer-told-requires c =
    let l = c.line_in-last.ensures in
    let t = c.started-n.ensures in
    let p = (allowed _ _ _ c.in_default.ensures) in
    let f = p.0.few in
    let d = ap length l ∙ length-drop 2 c.args.port.now in
    let e = p.0.long in
    (omega arith, p.1, p.2)

pub returns : goal.returns
returns c =
    let a = c.args in
    let v = c.started-n.ensures in
    let f = (allowed _ _ _ c.in_default.ensures).0.few in
    is_served c.in_default.ensures (omega arith)
    (last_moves a.port.now c.line_in-last.ensures (λ z. c.if-n-eq0.false (omega arith)) (omega arith) c.keep.ensures (omega arith) (omega arith) (omega arith) c.answer-told.ensures)
