-- `save` meets its contract: the tests say which case of the promise is asked. Assumes nothing.
use mathlib.Core.Path.{refl, ap, sym, ◌∙◌}
use native.Mathlib.Omega.{arith}
use lib.Seq.{length-take-le}
use Rattle.waiting_list.proofs.sound.Laws.{yes_T}
use Rattle.image.specs.board.declared.Board.{Board}
use Rattle.waiting_list.proofs.Laws.{no_struct, no_state, a_state}
use Rattle.saving.proofs.Laws.{text_fits, page-within, copied, not_sound, has_eight, too_short, all_written}
use Rattle.saving.proofs.save.Goals as goal

pub returns-then-not-whole : goal.returns-then-not-whole
returns-then-not-whole c = not_sound (no_struct _ _ c.whole.ensures c.if-not-whole.true)

pub load-b-requires : goal.load-b-requires
load-b-requires c = yes_T _ (sym c.whole.ensures ∙ c.if-not-whole.false)

pub returns-then-not-sound : goal.returns-then-not-sound
returns-then-not-sound c = not_sound (no_state _ _ c.load-b.ensures c.sound.ensures c.if-not-sound.true)

pub returns-then-b-ne-FOUR : goal.returns-then-b-ne-FOUR
returns-then-b-ne-FOUR c = has_eight ((a_state _ _ c.whole.ensures c.if-not-whole.false c.load-b.ensures c.sound.ensures c.if-not-sound.false)) (λ z. let g = ap (λ (x : Board). x.width) c.load-b.ensures in omega arith)

pub spell-n-requires : goal.spell-n-requires
spell-n-requires c = (c.sound.ensures.only c.if-not-sound.false, omega arith, refl)

pub returns-then-n-text : goal.returns-then-n-text
returns-then-n-text c =
    let g = ap (λ (x : Board). x.width) c.load-b.ensures in
    let n = rw c.load-b.ensures at c.spell-n.ensures in
    let k = n.next in
    too_short ((a_state _ _ c.whole.ensures c.if-not-whole.false c.load-b.ensures c.sound.ensures c.if-not-sound.false)) (omega arith) (omega arith)

pub slice_bounds-page-end : goal.slice_bounds-page-end
slice_bounds-page-end c =
    let f = text_fits (c.sound.ensures.only c.if-not-sound.false) (omega arith) in
    let n = page-within c.spell-n.ensures f in
    n

pub slice_bounds-copy-end : goal.slice_bounds-copy-end
slice_bounds-copy-end c =
    let f = text_fits (c.sound.ensures.only c.if-not-sound.false) (omega arith) in
    let n = page-within c.spell-n.ensures f in
    sym (length-take-le _ _ n)

pub copy-requires : goal.copy-requires
copy-requires c =
    let f = text_fits (c.sound.ensures.only c.if-not-sound.false) (omega arith) in
    let n = page-within c.spell-n.ensures f in
    let k = length-take-le c.spell-n.result c.spell-n.new.page n in
    omega arith

pub returns : goal.returns
returns c =
    let q = rw c.load-b.ensures at c.spell-n.ensures in
    let g = ap (λ (x : Board). x.width) c.load-b.ensures in
    let k = q.next in
    all_written ((a_state _ _ c.whole.ensures c.if-not-whole.false c.load-b.ensures c.sound.ensures c.if-not-sound.false)) (omega arith) (omega arith) (copied q c.copy.ensures)
