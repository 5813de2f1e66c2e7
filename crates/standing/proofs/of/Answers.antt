-- `of` meets its contract: the masks and the precedences of the channels read so far, from the last on. Assumes nothing.
use native.Mathlib.Omega.{arith}
use Rattle.standing.proofs.Turns.{reading_start, reading_more, reading_end, masked_room}
use borrow.Author.Rules.{rules}
use Rattle.standing.proofs.of.Goals as goal

pub loop-i-init : goal.loop-i-init
loop-i-init c = reading_start (search rules) (search rules)

pub offset_bounds-cs-i : goal.offset_bounds-cs-i
offset_bounds-cs-i c = omega (arith, c.loop-i.invariant.taken.low)

pub bounds-cs-i : goal.bounds-cs-i
bounds-cs-i c = omega (arith, c.loop-i.invariant.taken.low)

pub bit-busy-requires : goal.bit-busy-requires
bit-busy-requires c = masked_room c.loop-i.invariant.taken (search rules)

pub bit-locked-requires : goal.bit-locked-requires
bit-locked-requires c = masked_room c.loop-i.invariant.shut (search rules)

pub bounds-precs-i : goal.bounds-precs-i
bounds-precs-i c = omega (arith, c.loop-i.invariant.taken.low)

pub loop-i-preserved : goal.loop-i-preserved
loop-i-preserved c = rw (c.bit-locked.ensures, c.bit-busy.ensures) (reading_more c.loop-i.invariant _ (search rules))

pub returns : goal.returns
returns c = reading_end c.loop-i.invariant (search rules)
