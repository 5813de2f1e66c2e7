-- `place_writes` meets its contract: the walks over the channels left, with the marks made so far, are all the walks. Assumes nothing.
use mathlib.Core.Path.{◌≡◌}
use lib.ListN.{length}
use Rattle.placing.proofs.Turns.{Written}
use Rattle.placing.proofs.place_writes.Given as goal

abbrev pub invariant-loop-c : goal.invariant-loop-c
invariant-loop-c l = (length l.marks ≡ 64) × Written l.table l.c-items l.initial.marks l.marks l.c-index
