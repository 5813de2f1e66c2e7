-- `cut` is safe: no more is lent than there is, and what was saved is whole. Assumes nothing.
use mathlib.Core.Path.{sym}
use Rattle.image.proofs.Laws.{whole_long}
use Rattle.any_bytes.proofs.scene.cut.Goals as goal

pub slice_bounds-call-end : goal.slice_bounds-call-end
slice_bounds-call-end c = sym (whole_long _ c.save.ensures.whole)

pub slice_bounds-load-end : goal.slice_bounds-load-end
slice_bounds-load-end c =
    sym (whole_long _ ((c.call-d.ensures.read
    c.save.ensures.whole).0))

pub load-t-requires : goal.load-t-requires
load-t-requires c =
    (c.call-d.ensures.read
    c.save.ensures.whole).0
