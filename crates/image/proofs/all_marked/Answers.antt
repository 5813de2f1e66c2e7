-- `all_marked` meets its contract: the marks of eight places, one after another, are those of the definition. Assumes nothing.
use Prim.Native.Nat.{◌*◌}
use mathlib.Core.Path.{refl}
use Rattle.std.proofs.Common.{rules}
use borrow.Author.Tests.{tests}
use Rattle.std.proofs.lemmas.Iterator.{YieldsList-from_range}
use Rattle.std.proofs.lemmas.Iterator.Search.{all_from_yields_List}
use Rattle.image.specs.Image.{marks_at, all_marks}
use Rattle.image.proofs.all_marked.Goals as goal

pub returns : goal.returns
unfolding all_marks
returns c =
    all_from_yields_List (λ i. marks_at c.args.bytes.now (i * 70)) _ _ _ c.all.ensures.ran
    (YieldsList-from_range 0 8 8 refl refl) (λ i b q k. search (rules, tests))
