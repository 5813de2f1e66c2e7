-- `look_by` meets its contract: it asks for locks of the map that `choose` chose. Assumes nothing.
use mathlib.Core.Bool.{not}
use native.Mathlib.Omega.{arith}
use Rattle.picking.proofs.standing.Masks.{failing_pass, failing_fail}
use Rattle.choosing.proofs.Laws.{look_fails, look_grants, look_held}
use Rattle.choosing.proofs.look_by.Goals as goal

pub returns-in_default : goal.returns-in_default
returns-in_default c cs s = look_fails cs _ _ (c.choose.ensures cs s) c.in_default.is

pub returns-then-m-t-eq0 : goal.returns-then-m-t-eq0
returns-then-m-t-eq0 c cs s = look_grants cs _ _ (c.choose.ensures cs s) c.in-Some.is (failing_pass (λ x. not x.locked) _ cs s.locked (omega (arith, c.if-m-t-eq0.true)))

pub returns-else-m-t-eq0 : goal.returns-else-m-t-eq0
returns-else-m-t-eq0 c cs s = look_held cs _ _ (c.choose.ensures cs s) c.in-Some.is (failing_fail (λ x. not x.locked) _ cs s.locked (λ e. omega (arith, e, c.if-m-t-eq0.false)))
