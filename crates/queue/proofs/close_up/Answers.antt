-- `close_up` meets its contract: what is left to shift gives the row asked for. Assumes nothing.
use Rattle.std.proofs.Common.{◌≡◌, ℕ, suc, ◌+◌, ◌-◌, ◌<◌, length, set, get_or}
use mathlib.Core.Path.{ap, ap₂, ◌∙◌}
use native.Mathlib.Omega.{arith}
use Rattle.queue.proofs.Laws.{shut, shut_turn, shut_end}
use Rattle.queue.proofs.close_up.Goals as goal

pub loop-i-init : goal.loop-i-init
loop-i-init g c =
    let a = c.args in
    let e : a.k + 1 - 1 ≡ a.k = omega arith in
    ap (λ (n : ℕ). shut a.row.now n a.x) e

pub loop-i-preserved : goal.loop-i-preserved
loop-i-preserved g c =
    let l = c.loop-i in
    let r = c.index-row-i.result in
    let j : ℕ = l.i - 1 in
    let e : l.i ≡ j + 1 = omega (arith, l.auto.i) in
    let f : l.i + 1 - 1 ≡ j + 1 = omega (arith, l.auto.i) in
    let h : j + 1 < length l.row = omega (arith, l.auto.i, l.auto.row, c.loop-i-test.true) in
    let v : r ≡ get_or l.row (j + 1) r = c.index-row-i.is ∙ ap (λ (n : ℕ). get_or l.row n r) e in
    ap₂ (λ n z. shut (set l.row j z) n c.args.x) f v ∙ shut_turn l.row j c.args.x r h ∙ l.invariant

pub returns : goal.returns
returns g c =
    let l = c.loop-i in
    let x = c.args.x in
    let m : suc (length l.row - 1) ≡ length l.row = omega (arith, c.requires, l.auto.row) in
    let n : length l.row - 1 ≡ l.i - 1 = omega (arith, l.auto.row, l.auto.i-end, c.loop-i-test.false) in
    shut_end l.row (length l.row - 1) x m ∙ ap (λ (i : ℕ). shut l.row i x) n ∙ l.invariant
