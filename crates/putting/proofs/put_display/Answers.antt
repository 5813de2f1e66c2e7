-- `put_display` meets its contract: the display's lines are copied from memory of their own. Assumes nothing.
use Prim.Native.Nat.{◌≤◌}
use mathlib.Core.Path.{◌≡◌, refl, sym}
use native.Mathlib.Omega.{arith}
use lib.Dec.{lit≤}
use lib.ListN.{length}
use lib.Seq.{length-take-le}
use Rattle.image.proofs.Laws.{whole_long}
use Rattle.putting.proofs.Laws.{shown_room, few_within, wide-eight, listed_few, spelt-long, display-hidden, display-shown}
use borrow.Author.Rules.{rules}
use Rattle.putting.proofs.put_display.Goals as goal

pub returns-then-not-show : goal.returns-then-not-show
returns-then-not-show c = display-hidden _ _ _ _ c.if-not-show.true

pub width-width-requires : goal.width-width-requires
width-width-requires c = whole_long _ c.requires.0

pub spell-k-requires : goal.spell-k-requires
spell-k-requires c =
    let few = listed_few (c.requires.0, c.requires.1) (lit≤ tt) c.in_array-w.ensures in
    (rw c.width-width.ensures (wide-eight c.requires.1), omega arith)

pub slice_bounds-text-end : goal.slice_bounds-text-end
slice_bounds-text-end c =
    let v = c.spell-k.ensures in
    let n : length c.spell-k.new.out ≡ 743 = spelt-long v refl in
    few_within v.few n

pub slice_bounds-copy-end : goal.slice_bounds-copy-end
slice_bounds-copy-end c =
    let v = c.spell-k.ensures in
    let n : length c.spell-k.new.out ≡ 743 = spelt-long v refl in
    sym (length-take-le _ _ (few_within v.few n))

pub copy-requires : goal.copy-requires
copy-requires c =
    let v = c.spell-k.ensures in
    let few = v.few in
    let n : length c.spell-k.new.out ≡ 743 = spelt-long v refl in
    let r = (shown_room 743 _ c.if-not-show.false c.requires.2) in
    rw (length-take-le _ _ (few_within few n)) (omega arith)

pub overflow_add-result : goal.overflow_add-result
overflow_add-result c =
    let few = c.spell-k.ensures.few in
    let r = (shown_room 743 _ c.if-not-show.false c.requires.2) in
    search rules

pub returns : goal.returns
returns c =
    display-shown (c.requires.0, c.requires.1) (lit≤ tt) c.in_array-w.ensures (rw c.width-width.ensures at c.spell-k.ensures)
    c.if-not-show.false c.copy.ensures
