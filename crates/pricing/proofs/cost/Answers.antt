-- `cost` meets its contract: the higher of the top so far and of the channels left is the highest precedence, and the number so
-- far and the number left are the number stolen. Assumes nothing.
use mathlib.Core.Path.{sym, ◌∙◌}
use native.Mathlib.Omega.{arith}
use Rattle.pricing.proofs.Turns.{summed_start, summed_more, summed_skip, summed_top, summed_many, priced_by}
use borrow.Author.Rules.{rules}
use Rattle.pricing.proofs.cost.Goals.{else-names, then-names}
use Rattle.pricing.proofs.cost.Goals as goal

pub loop-i-init : goal.loop-i-init
loop-i-init c = (summed_start _ _ (search rules), omega arith)

pub loop-i-preserved : goal.loop-i-preserved
loop-i-preserved c =
    let t = c.loop-i.invariant.0 in
    let e = sym c.names.ensures in
    elim c.if-names.branch [
      | then-names w ↦ rw (w.top-is, w.many-is, w.max-top.ensures) (summed_more t (search rules) (e ∙ w.if-names.true), rw w.max-top.ensures at w.max-top.type_inv)
      | else-names w ↦ rw (w.top-is, w.many-is) (summed_skip t (search rules) (e ∙ w.if-names.false), c.loop-i.invariant.1)
    ]

pub returns : goal.returns
returns c =
    let t = c.loop-i.invariant.0 in
    let a = summed_top t (search rules) in
    let b = summed_many t (search rules) in
    (omega (arith, t.few, t.within), λ cs s. priced_by _ _ cs s (omega (arith, t.few, t.within)) (omega (arith, c.from.ensures)))
