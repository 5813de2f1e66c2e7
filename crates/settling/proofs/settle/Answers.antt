-- `settle` meets its contract: at the head of a walk and where it stops, what is to come is what was to come at the start; a
-- walk without a grant has nothing to come. Each grant leaves fewer waiting. Assumes nothing.
use Prim.Native.Nat.{◌-◌}
use mathlib.Core.Path.{sym, ◌∙◌}
use native.Mathlib.Omega.{arith}
use Rattle.visiting.proofs.store.Store.{held_length}
use Rattle.visiting.proofs.waiting.Finding.{readable}
use Rattle.settling.proofs.Loops.{head_at_start, walk_at_start, walk_after, counts_fit, walk_visits, walk_again}
use Rattle.settling.proofs.Loops.{walk_less, at_end, end_left, left_fits, at_again, at_next}
use Rattle.settling.proofs.settle.Goals as goal

pub again-init : goal.again-init
again-init c = head_at_start c.requires.held

pub loop-t-init : goal.loop-t-init
loop-t-init c = walk_at_start c.again.invariant (c.of-t.ensures _)

pub next-f-requires : goal.next-f-requires
next-f-requires c = readable c.loop-t.invariant.walk.mid.held

pub overflow_sub-looks : goal.overflow_sub-looks
overflow_sub-looks c = walk_after c.again.invariant.head c.loop-t.invariant.walk c.next-f.ensures

pub overflow_add-looks : goal.overflow_add-looks
overflow_add-looks c = let k = counts_fit c.again.invariant c.loop-t.invariant c.next-f.ensures c.requires.held in omega (arith, k)

pub shape_of-table : goal.shape_of-table
shape_of-table c = held_length c.loop-t.invariant.walk.mid.held ∙ sym (held_length c.requires.held)

pub shape_of-replies : goal.shape_of-replies
shape_of-replies c = c.loop-t.invariant.walk.mid.same.long ∙ c.again.invariant.head.same.long

pub returns : goal.returns
returns c =
    let e = at_end c.again.invariant c.loop-t.invariant c.next-f.ensures (omega (arith, c.if-at-k.true)) in
    let l = end_left c.again.invariant
    c.loop-t.invariant c.next-f.ensures (omega (arith, c.if-at-k.true)) in
    record { did = e.0; looks = e.1; left = l }

pub overflow_add-looks-in-loop-t : goal.overflow_add-looks-in-loop-t
overflow_add-looks-in-loop-t c = let k = counts_fit c.again.invariant c.loop-t.invariant c.next-f.ensures c.requires.held in omega (arith, k)

pub visit-d-requires : goal.visit-d-requires
visit-d-requires c =
    let p = c.requires in
    walk_visits c.again.invariant.head c.loop-t.invariant.walk c.next-f.ensures p.room p.fits (omega (arith, c.if-at-k.false))

pub overflow_add-left : goal.overflow_add-left
overflow_add-left c = let k = left_fits c.again.invariant c.loop-t.invariant c.next-f.ensures c.visit-d.ensures c.requires.held in omega (arith, k)

pub again-smaller : goal.again-smaller
again-smaller c = (walk_again c.again.invariant.head c.loop-t.invariant.walk c.next-f.ensures c.visit-d.ensures c.if-d.true).1

pub again-preserved : goal.again-preserved
again-preserved c = at_again c.again.invariant c.loop-t.invariant c.next-f.ensures c.visit-d.ensures c.if-d.true

pub loop-t-smaller : goal.loop-t-smaller
loop-t-smaller c = walk_less c.again.invariant.head c.loop-t.invariant.walk c.next-f.ensures c.visit-d.ensures c.if-d.false

pub loop-t-preserved : goal.loop-t-preserved
loop-t-preserved c = at_next c.again.invariant c.loop-t.invariant c.next-f.ensures c.visit-d.ensures c.if-d.false
