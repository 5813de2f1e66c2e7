-- `length_in` meets its contract: it asks for the second form's kinds first. Assumes nothing.
use mathlib.Core.Path.{ap, ◌∙◌}
use native.Mathlib.Omega.{arith}
use borrow.Author.Rules.{rules}
use Rattle.faults.specs.Faults.{told}
use Rattle.faults.proofs.Laws.{told_some, kind_8, kind_9, kind_of_both, kind_of_first}
use Rattle.faults.proofs.length_in.Goals as goal

pub returns-then-form-ne2 : goal.returns-then-form-ne2
returns-then-form-ne2 c = c.length_of.ensures ∙ ap told (kind_of_first _ c.if-form-ne2.true)

pub returns-in-216 : goal.returns-in-216
returns-in-216 c = told_some (omega arith) (kind_8 _ c.if-form-ne2.false c.in-216.is)

pub returns-in-217 : goal.returns-in-217
returns-in-217 c = told_some (omega arith) (kind_9 _ c.if-form-ne2.false c.in-217.is)

pub returns-in_default : goal.returns-in_default
returns-in_default c = c.length_of-in_default.ensures ∙ ap told (kind_of_both _ c.if-form-ne2.false (search rules) (search rules))
