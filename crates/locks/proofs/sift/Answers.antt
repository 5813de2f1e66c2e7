-- `sift` meets its contract: with some locks passed, those are sifted and the others as they were. Assumes nothing.
use Prim.Native.Nat.{◌≤◌, ◌<◌}
use mathlib.Core.Path.{◌≡◌, refl}
use native.Mathlib.Omega.{arith}
use lib.ListN.{length, length-take}
use lib.Seq.{get_or-take}
use Rattle.locks.proofs.Turns.{many_few, after_start, after_fit, after_next, after_end}
use borrow.Author.Rules.{rules}
use Rattle.locks.proofs.sift.Goals as goal

pub loop-id-init : goal.loop-id-init
loop-id-init c = λ a. after_start a _ c.empty-left.ensures refl

pub one-s-requires : goal.one-s-requires
one-s-requires c =
    let l = c.loop-id in
    let q = c.args.q in
    let p = c.requires in
    let t = simp length-take at c.loop-id-test.true in
    let h : l.id-index < q.n = omega arith in
    rw (get_or-take q.n q.ids l.id-index 0 h) (after_fit p l.id-index h l.s _ _ (l.invariant p))

pub loop-id-preserved : goal.loop-id-preserved
loop-id-preserved c =
    let l = c.loop-id in
    let q = c.args.q in
    let t = simp length-take at c.loop-id-test.true in
    let h : l.id-index < q.n = omega arith in
    λ a. after_next a l.id-index h l.s _ _ (l.invariant a) _ _ _ (rw (get_or-take q.n q.ids l.id-index 0 h) at c.one-s.ensures)

pub returns : goal.returns
returns c =
    let l = c.loop-id in
    let q = c.args.q in
    let z : length q.ids ≡ 64 = search rules in
    let f = many_few c.requires in
    let t = simp length-take at c.loop-id-test.false in
    let h : q.n ≤ l.id-index = omega arith in
    λ a. after_end a l.id-index l.s _ _ h (l.invariant a)
