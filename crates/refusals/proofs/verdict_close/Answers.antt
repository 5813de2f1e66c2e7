-- `verdict_close` meets its contract: its test is the one test of the list. Assumes nothing.
use mathlib.Core.Path.{ap, sym, ◌∙◌}
use mathlib.Core.Bool.{not}
use Rattle.steps.proofs.Laws.{met, past, none}
use Rattle.refusals.proofs.verdict_close.Goals as goal

pub returns-then-has : goal.returns-then-has
returns-then-has c = past _ _ _ (ap not (sym c.has.ensures ∙ c.if-has.true)) none

pub returns-else-has : goal.returns-else-has
returns-else-has c = met _ _ _ (ap not (sym c.has.ensures ∙ c.if-has.false))
