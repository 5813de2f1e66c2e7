-- `fill` meets its contract: each turn takes one line at most, and what is left of the lump, taken by the rule, gives the whole.
-- Assumes nothing.
use Prim.Native.Nat.{◌-◌}
use mathlib.Core.Path.{refl, sym, ◌∙◌}
use native.Mathlib.Omega.{arith}
use borrow.Author.Tests.{leb-true}
use Rattle.paging.proofs.Laws.{filling_start, filling_on, filling_step, filling_full, filling_end}
use Rattle.paging.proofs.fill.Goals as goal

pub loop-from-init : goal.loop-from-init
loop-from-init c = let p = c.requires in (p.0, filling_start p.1 p.2, refl, refl, refl)

pub shape_of-state-then-not-room : goal.shape_of-state-then-not-room
shape_of-state-then-not-room c = c.loop-from.invariant.2

pub shape_of-table-then-not-room : goal.shape_of-table-then-not-room
shape_of-table-then-not-room c = c.loop-from.invariant.3

pub shape_of-page-then-not-room : goal.shape_of-page-then-not-room
shape_of-page-then-not-room c = c.loop-from.invariant.4

pub returns-then-not-room : goal.returns-then-not-room
returns-then-not-room c =
    let i = c.loop-from.invariant in
    (i.0, record { leaves = filling_full i.1 (sym c.room.ensures ∙ c.if-not-room.true) })

pub slice_bounds-turn-count : goal.slice_bounds-turn-count
slice_bounds-turn-count c = c.loop-from.invariant.1.inside

pub slice_bounds-turn-start : goal.slice_bounds-turn-start
slice_bounds-turn-start c = c.loop-from.invariant.1.inside

pub turn-t-requires : goal.turn-t-requires
turn-t-requires c =
    let v = c.loop-from.invariant in
    let i = v.1 in
    (v.0, i.held, i.within, leb-true _ _ (sym c.room.ensures ∙ c.if-not-room.false))

pub overflow_add-from : goal.overflow_add-from
overflow_add-from c =
    let w = (filling_on c.loop-from.invariant.1 c.loop-from-test.true c.turn-t.ensures.1).0 in
    let z = c.well_formed.1.1.1.1.0.0 in
    record { fits = omega arith }

pub loop-from-smaller : goal.loop-from-smaller
loop-from-smaller c =
    let w = filling_on c.loop-from.invariant.1 c.loop-from-test.true c.turn-t.ensures.1 in
    let a = w.0 in
    let b = w.1 in
    omega arith

pub loop-from-preserved : goal.loop-from-preserved
loop-from-preserved c =
    let i = c.loop-from.invariant in
    let e = c.turn-t.ensures in
    let k = c.turn-t.auto in (
      e.0,
      filling_step i.1 c.loop-from-test.true e.1 (sym c.room.ensures ∙ c.if-not-room.false),
      k.state ∙ i.2,
      k.table ∙ i.3,
      k.page ∙ i.4,
    )

pub shape_of-state : goal.shape_of-state
shape_of-state c = c.loop-from.invariant.2

pub shape_of-table : goal.shape_of-table
shape_of-table c = c.loop-from.invariant.3

pub shape_of-page : goal.shape_of-page
shape_of-page c = c.loop-from.invariant.4

pub returns : goal.returns
returns c = let i = c.loop-from.invariant in (i.0, record { leaves = filling_end i.1 c.loop-from-test.false })
