-- `whole` meets its contract: the length, and then the marks. Assumes nothing.
use mathlib.Core.Path.{◌≡◌, ◌∙◌}
use lib.ListN.{length}
use borrow.Author.Tests.{ne_eqb}
use Rattle.image.proofs.Laws.{not_long, the_marks}
use Rattle.image.proofs.whole.Goals as goal

pub returns-then-bytes-eq823 : goal.returns-then-bytes-eq823
returns-then-bytes-eq823 c = c.all_marked.ensures ∙ the_marks _ c.if-bytes-eq823.true (λ i. (c.shared_slice_known-1.given i).fits)

pub returns-else-bytes-eq823 : goal.returns-else-bytes-eq823
returns-else-bytes-eq823 c =
    let n : length c.args.bytes.now ≡ 823 → ⊥ = c.if-bytes-eq823.false in
    ne_eqb _ 823 n ∙ not_long _ n
