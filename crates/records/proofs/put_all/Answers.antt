-- `put_all` meets its contract: after i turns the records of the first i requests stand in front. Assumes nothing.
use Prim.Native.Nat.{ℕ, ◌-◌}
use mathlib.Core.Path.{◌≡◌, ap, ◌∙◌}
use native.Mathlib.Omega.{arith}
use borrow.Author.Rules.{rules}
use Rattle.table.specs.memory.Splice.{splice}
use Rattle.records.specs.Records.{first_records}
use Rattle.records.proofs.Records.{filling_start, filling_more, four_is}
use Rattle.records.proofs.put_all.Goals as goal

pub loop-i-init : goal.loop-i-init
loop-i-init c = filling_start _ _ _ _ (search rules)

pub bounds-q-i : goal.bounds-q-i
bounds-q-i c = let p = c.requires.0 in omega (arith, p.few)

pub prec-prec-requires : goal.prec-prec-requires
prec-prec-requires c = let p = c.requires.0 in (p.small _ (search rules), p.long)

pub combos-requires : goal.combos-requires
combos-requires c = let p = c.requires.0 in (p.small _ (search rules), p.long, p.lists _ (search rules))

pub put-requires : goal.put-requires
put-requires c =
    let p = c.requires in
    let e = c.loop-i.invariant.long in
    omega (arith, p.0.few)

pub loop-i-preserved : goal.loop-i-preserved
loop-i-preserved c =
    let p = c.requires in
    filling_more c.loop-i.invariant _ _ _ (search rules) p.0.few p.1
    (λ cs t. four_is cs c.args.q _ c.loop-i.i _ c.prec-prec.ensures c.combos.ensures (c.look_by-l.ensures cs t) c.mark.ensures)
    c.put.ensures

pub returns : goal.returns
returns c =
    let l = c.loop-i in
    let a = c.args in
    let e : l.i ≡ a.q.n = let w = l.invariant.within in omega arith in
    λ cs s. l.invariant.filled cs s ∙ ap (λ (k : ℕ). splice a.out.now 0 (first_records cs a.q a.table.now k)) e
