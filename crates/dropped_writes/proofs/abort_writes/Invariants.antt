-- `abort_writes` meets its contract: with some writes replied and idle, doing the rest gives the whole. Assumes nothing.
use lib.ListN.{take}
use Rattle.dropped_writes.proofs.Turns.{Aborting}
use Rattle.dropped_writes.proofs.abort_writes.Given as goal

abbrev pub invariant-loop-id : goal.invariant-loop-id
invariant-loop-id l = Aborting l.fn.c.key l.n (take l.fn.c.writes.n l.fn.c.writes.ids) l.initial.table l.initial.replies l.table l.replies l.at l.id-index
