-- `seen` meets its contract: the id's desk is tested. Assumes nothing.
use mathlib.Core.Path.{refl, sym, ◌∙◌}
use borrow.Author.Tests.{eq-eqb, ne_eqb}
use Rattle.play.proofs.seen.Goals as goal

pub returns-then-of-desk : goal.returns-then-of-desk
returns-then-of-desk c = rw (eq-eqb _ _ (sym c.of.ensures ∙ c.if-of-desk.true)) refl

pub returns-else-of-desk : goal.returns-else-of-desk
returns-else-of-desk c = rw (ne_eqb _ _ (λ e. c.if-of-desk.false (c.of.ensures ∙ e))) refl
