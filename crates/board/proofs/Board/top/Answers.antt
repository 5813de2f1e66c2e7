-- `top` meets its contract: the test is the definition's. Assumes nothing.
use borrow.Author.Tests.{eq-eqb, ne_eqb}
use Rattle.board.proofs.Board.top.Goals as goal

pub returns-then-width-eq-FOUR : goal.returns-then-width-eq-FOUR
returns-then-width-eq-FOUR c = rw (eq-eqb _ _ c.if-width-eq-FOUR.true)

pub returns-else-width-eq-FOUR : goal.returns-else-width-eq-FOUR
returns-else-width-eq-FOUR c = rw (ne_eqb _ _ c.if-width-eq-FOUR.false)
