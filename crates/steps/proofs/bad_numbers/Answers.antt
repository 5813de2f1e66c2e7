-- `bad_numbers` meets its contract: none are right, another length than six is not, and six are by their period and volume. Assumes
-- nothing.
use mathlib.Core.Path.{sym, ◌∙◌}
use Rattle.steps.proofs.Laws.{numbers_none, numbers_other, numbers_good, numbers_bad}
use borrow.Author.Rules.{rules}
use Rattle.steps.proofs.bad_numbers.Goals as goal

pub returns-then-is_empty : goal.returns-then-is_empty
returns-then-is_empty c = numbers_none c.args.combos.now (search rules)

pub returns-then-combos-ne6 : goal.returns-then-combos-ne6
returns-then-combos-ne6 c = numbers_other c.args.combos.now (search rules) c.if-combos-ne6.true

pub returns-then-in_range : goal.returns-then-in_range
returns-then-in_range c =
    let ms = c.args.combos.now in
    numbers_good ms (search rules) (sym c.in_range.ensures ∙ c.if-in_range.true)

pub returns : goal.returns
returns c =
    let ms = c.args.combos.now in
    numbers_bad ms (search rules) (sym c.in_range.ensures ∙ c.if-in_range.false)
