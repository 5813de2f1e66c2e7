-- `resume2` meets its contract: what was accepted is held, so that it can be counted. Assumes nothing.
use mathlib.Core.Path.{refl}
use borrow.Author.Rules.{rules}
use Rattle.carrying.proofs.resume2.Goals as goal

pub returns-in_default : goal.returns-in_default
returns-in_default c = let n = c.in_default.ensures in record { accepts = n; counts = refl }

pub recount-requires : goal.recount-requires
recount-requires c = let y = c.in-Some.ensures in (y.held, search rules)

pub returns : goal.returns
returns c = let y = c.in-Some.ensures in record { accepts = y; counts = c.recount.ensures }
