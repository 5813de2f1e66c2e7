-- `accepts` meets its contract: the four tests of the definition, one after the other.
-- Assumes nothing.
use Rattle.stereo.proofs.Turns.{left_high, right-high, something_else, last_told}
use borrow.Author.Rules.{rules}
use Rattle.stereo.proofs.accepts.Goals as goal

pub returns-then-left-gt2 : goal.returns-then-left-gt2
returns-then-left-gt2 c = left_high _ _ _ (search rules)

pub returns-then-right-gt2 : goal.returns-then-right-gt2
returns-then-right-gt2 c = right-high _ _ _ (search rules) (search rules)

pub returns-then-not-nothing_else : goal.returns-then-not-nothing_else
returns-then-not-nothing_else c = something_else _ _ _ (search rules) (search rules) _ c.nothing_else.ensures (c.if-not-nothing_else.true)

pub returns : goal.returns
returns c = last_told _ _ _ (search rules) (search rules) _ c.nothing_else.ensures _ (c.if-not-nothing_else.false) c.each_once.ensures
