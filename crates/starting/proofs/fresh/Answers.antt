-- `fresh` meets its contract: the tests say that all fits, and the rest is by the laws that it uses. Assumes nothing.
use native.Mathlib.Omega.{arith}
use mathlib.Core.Path.{◌≡◌, sym, ◌∙◌}
use mathlib.Core.Bool.{Bool, true}
use lib.Dec.{T}
use Rattle.starting.proofs.Laws.{begun}
use Rattle.starting.proofs.fresh.Goals as goal

yes_T : (b : Bool) → b ≡ true → T b
yes_T b e = rw e tt

-- the tests have no names here: an edit of one is refused for what it says
pub returns : goal.returns
returns c =
    begun
    (record { board = yes_T _ (sym c.sized.ensures ∙ c.if-not-sized.false); state = omega arith; table = omega arith; display = omega arith })
    c.fresh-b.ensures
    c.save.ensures
    c.clear.ensures
    c.clear-2.ensures
