-- `lefts` meets its contract: the two channels on that side, one behind the other. Assumes nothing.
use mathlib.Core.Path.{refl}
use Rattle.wishes.specs.Wishes.{lefts}
use Rattle.wishes.proofs.lefts.Goals as goal

pub returns : goal.returns
unfolding lefts
returns c = rw (c.named.ensures.0, c.named-2.ensures.0) refl
