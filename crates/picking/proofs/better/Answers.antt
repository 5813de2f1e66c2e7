-- `better` meets its contract: each return is a case of what a best so far and one more combination choose. Assumes nothing.
use native.Mathlib.Omega.{arith}
use Rattle.pricing.specs.machine.Choosing.{takeable, eligible}
use Rattle.pricing.proofs.standing.Masks.{failing_pass, failing_fail}
use Rattle.picking.proofs.Laws.{better_refused, better_cheaper, better_stays}
use borrow.Author.Rules.{rules}
use Rattle.picking.proofs.better.Goals as goal

pub returns-then-map-barred-ne0 : goal.returns-then-map-barred-ne0
unfolding eligible
returns-then-map-barred-ne0 c cs p o s b k = better_refused cs p _ _ o k (failing_fail (takeable p) _ cs b (λ e. omega (arith, e, c.if-map-barred-ne0.true)))

pub returns-then-is_none_or : goal.returns-then-is_none_or
unfolding eligible
returns-then-is_none_or c cs p o s b k =
    let e = c.cost-cost.ensures in
    better_cheaper cs p _ _ o k (failing_pass (takeable p) _ cs b (omega (arith, c.if-map-barred-ne0.false))) (e.1 cs s) (search rules)

pub returns : goal.returns
unfolding eligible
returns c cs p o s b k =
    let e = c.cost-cost.ensures in
    better_stays cs p _ _ o k (failing_pass (takeable p) _ cs b (omega (arith, c.if-map-barred-ne0.false))) (e.1 cs s) (search rules)
