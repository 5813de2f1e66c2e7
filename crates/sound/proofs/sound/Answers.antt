-- `sound` meets its contract: a board of another size, or with a channel behind its own that is not free, is not held, and else
-- the wide state decides (Own.antt). Assumes nothing.
use mathlib.Core.Path.{sym, ◌∙◌}
use Rattle.board.proofs.Laws.{sized-within}
use Rattle.sound.proofs.Laws.{yes_T}
use Rattle.sound.proofs.Own.{not_sized, not_spare, tells}
use Rattle.sound.proofs.sound.Goals as goal

pub returns-then-not-sized : goal.returns-then-not-sized
returns-then-not-sized c = not_sized _ _ (sym c.sized.ensures ∙ c.if-not-sized.true)

pub spare-requires : goal.spare-requires
spare-requires c = (sized-within _ (yes_T _ (sym c.sized.ensures ∙ c.if-not-sized.false))).1

pub returns-then-not-spare : goal.returns-then-not-spare
returns-then-not-spare c = not_spare _ _ (sym c.spare.ensures ∙ c.if-not-spare.true)

pub returns : goal.returns
returns c =
    let t = yes_T _ (sym c.sized.ensures ∙ c.if-not-sized.false) in
    let v = yes_T _ (sym c.spare.ensures ∙ c.if-not-spare.false) in
    tells _ _ t v c.top.ensures c.within.ensures
