-- `nothing_else` meets its contract: each map of the list is tested.
-- Assumes nothing.
use mathlib.Core.Path.{◌∙◌}
use Rattle.std.proofs.Common.{rules}
use borrow.Author.Tests.{tests}
use Rattle.std.proofs.lemmas.Iterator.{YieldsList-from_slice}
use Rattle.std.proofs.lemmas.Iterator.Search.{all_from_yields_List}
use Rattle.wishes.specs.Wishes.{meets}
use Rattle.stereo.proofs.Turns.{all_tested}
use Rattle.stereo.proofs.nothing_else.Goals as goal

pub returns : goal.returns
returns c =
    let a = c.args in
    all_from_yields_List (meets a.left a.right) _ _ _ c.all.ensures.ran (YieldsList-from_slice a.maps.now cc) (λ x b q k. search (rules, tests))
    ∙ all_tested (meets a.left a.right) a.maps.now
