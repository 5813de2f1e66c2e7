-- `first_form` meets its contract: four channels have a text, and no other number has. Assumes nothing.
use borrow.Author.Rules.{rules}
use Rattle.keeping.proofs.first_form.Goals as goal

pub returns-then-b-ne-FOUR : goal.returns-then-b-ne-FOUR
returns-then-b-ne-FOUR c = record { four = λ w. absurd (c.if-b-ne-FOUR.true w); other = λ w. (search rules, search rules) }

pub returns : goal.returns
returns c = record { four = λ w. c.spell.ensures; other = λ w. absurd (w (search rules)) }
