-- `fill` meets its contract: after m turns the maps below m that meet the wish stand at the front.
-- Assumes nothing.
use native.Mathlib.Omega.{arith}
use Rattle.stereo.proofs.Turns.{filled_start, filled_hit, filled_miss, filled_room, filled-length, filled_end}
use borrow.Author.Rules.{rules}
use Rattle.stereo.proofs.fill.Goals.{else-meets, then-meets}
use Rattle.stereo.proofs.fill.Goals as goal

pub loop-map-init : goal.loop-map-init
loop-map-init c = filled_start _ _ _

pub bounds-maps-n : goal.bounds-maps-n
bounds-maps-n c =
    let l = c.loop-map in
    let a = c.args in
    let w = filled_room l.invariant (search rules) (search rules) (search rules) (search rules) _ c.meets.ensures c.if-meets.true in
    let e = filled-length l.invariant (search rules) in
    omega arith

pub loop-map-preserved : goal.loop-map-preserved
loop-map-preserved c =
    let l = c.loop-map in
    elim c.if-meets.branch [
      | then-meets w ↦ rw (w.maps-is, w.n-is) (filled_hit l.invariant (search rules) (search rules) (search rules) (search rules) _ c.meets.ensures w.if-meets.true)
      | else-meets w ↦ rw (w.maps-is, w.n-is) (filled_miss l.invariant (search rules) (search rules) (search rules) (search rules) _ c.meets.ensures w.if-meets.false)
    ]

pub shape_of-maps : goal.shape_of-maps
shape_of-maps c = filled-length c.loop-map.invariant (search rules)

pub returns : goal.returns
returns c = filled_end c.loop-map.invariant (search rules)
