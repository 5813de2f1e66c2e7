-- `meets` meets its contract: the three tests of the definition, one after the other. Assumes nothing.
use borrow.Author.Rules.{rules}
use Rattle.wishes.proofs.Laws.{high-fails, lefts_fail, rights_tell}
use Rattle.wishes.proofs.meets.Goals as goal

pub returns-then-map-gt-TOP : goal.returns-then-map-gt-TOP
returns-then-map-gt-TOP c = high-fails _ _ _ (search rules)

pub returns-then-lefts-left : goal.returns-then-lefts-left
returns-then-lefts-left c = lefts_fail _ _ _ _ c.lefts.ensures (search rules)

pub returns : goal.returns
returns c = rights_tell _ _ _ _ _ (search rules) c.lefts.ensures (search rules) c.rights.ensures
