-- `leads` meets its contract: an empty queue has no front. Assumes nothing.
use mathlib.Core.Path.{refl}
use borrow.Author.Tests.{eq-eqb, ne_eqb}
use Rattle.fronts.specs.Fronts.{leads_at}
use Rattle.fronts.proofs.leads.Goals as goal

pub returns-then-q-eq0 : goal.returns-then-q-eq0
unfolding leads_at
returns-then-q-eq0 c = rw (eq-eqb _ _ c.if-q-eq0.true) refl

pub returns : goal.returns
unfolding leads_at
returns c = rw (ne_eqb _ _ c.if-q-eq0.false, c.at-first.ensures) refl
