-- `times` meets its contract: what is left of the list, where only the number is kept, is counted.
-- Assumes nothing.
use mathlib.Core.Path.{◌∙◌}
use lib.Dec.{eqb}
use Rattle.std.proofs.Common.{rules}
use borrow.Author.Tests.{tests}
use Rattle.std.proofs.lemmas.Iterator.{YieldsList-from_slice}
use Rattle.std.proofs.lemmas.Iterator.Consumers.{YieldsList-at, YieldsList-from_filter, count_from_yields_List}
use Rattle.stereo.proofs.Turns.{counted}
use Rattle.stereo.proofs.times.Goals as goal

pub returns : goal.returns
returns c =
    let a = c.args in
    count_from_yields_List _ _ c.count.ensures.ran
    (YieldsList-from_filter _ (λ m. eqb m a.map) (YieldsList-at c.filter.ensures.source (YieldsList-from_slice a.maps.now cc)) c.filter.ensures.closure
    (λ x b q k. search (rules, tests)))
    ∙ counted a.map a.maps.now
