-- `change_named` meets its contract: the channels done and the change of the rest make the change. Assumes nothing.
use mathlib.Core.Path.{refl, sym, ◌∙◌}
use native.Mathlib.Omega.{arith}
use Rattle.named_channels.proofs.Turning.{turned_start, turned_tidy, turned_more, turned_end}
use Rattle.image.proofs.Laws.{whole_long}
use Rattle.named_channels.proofs.change_named.Goals as goal

pub loop-i-init : goal.loop-i-init
loop-i-init c = (refl, turned_start _ _ _ c.requires.0)

pub once-requires : goal.once-requires
once-requires c = let l = c.loop-i in (l.invariant.1.whole, omega arith, turned_tidy l.invariant.1 (omega arith) c.requires.1, c.requires.2)

pub loop-i-preserved : goal.loop-i-preserved
loop-i-preserved c =
    let l = c.loop-i in
    let t = turned_more l.invariant.1 (omega arith) c.once.ensures in
    (whole_long _ t.whole ∙ sym (whole_long _ c.requires.0), t)

pub shape_of-state : goal.shape_of-state
shape_of-state c = c.loop-i.invariant.0

pub returns : goal.returns
returns c = turned_end c.loop-i.invariant.1 (omega arith)
