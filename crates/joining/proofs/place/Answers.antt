-- `place` meets its contract: no request passed has a lower precedence, and the one it stops at has. Assumes nothing.
use Prim.Native.Nat.{◌<◌, ◌≤◌}
use mathlib.Core.Path.{◌≡◌}
use native.Mathlib.Omega.{arith}
use native.Mathlib.Numerals.{add-one}
use lib.ListN.{length, take, length-take}
use Rattle.keys.proofs.Turns.{small_at}
use Rattle.joining.proofs.Joining.{place_here, place_turn, place_end}
use borrow.Author.Rules.{rules}
use Rattle.joining.proofs.place.Goals as goal

pub prec-requires : goal.prec-requires
prec-requires c = let q = c.requires in (small_at _ c.loop-i.i q.1 (search rules), q.2)

pub returns-then-prec : goal.returns-then-prec
returns-then-prec c =
    let l = c.loop-i in
    let a = c.args in
    let h : l.i < length (take a.q.n a.q.ids) = search rules in
    omega (arith, place_here a.prec a.table.now (take a.q.n a.q.ids) l.i h (rw (← c.prec.ensures) c.if-prec.true), l.invariant)

pub loop-i-preserved : goal.loop-i-preserved
loop-i-preserved c =
    let l = c.loop-i in
    let a = c.args in
    let h : l.i < length (take a.q.n a.q.ids) = search rules in
    rw add-one (omega (arith, place_turn a.prec a.table.now (take a.q.n a.q.ids) l.i h (rw (← c.prec.ensures) c.if-prec.false), l.invariant))

pub returns : goal.returns
returns c =
    let l = c.loop-i in
    let a = c.args in
    let z : length a.q.ids ≡ 64 = search rules in
    let q = c.requires in
    let n : length (take a.q.n a.q.ids) ≡ a.q.n = simp length-take (omega arith) in
    let h : length (take a.q.n a.q.ids) ≤ l.i = search rules in
    let k : l.i ≤ length (take a.q.n a.q.ids) = search rules in
    omega (arith, place_end a.prec a.table.now (take a.q.n a.q.ids) l.i h, l.invariant)
