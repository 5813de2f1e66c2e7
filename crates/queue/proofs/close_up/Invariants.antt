-- `close_up` meets its contract: what is left to shift gives the row asked for. Assumes nothing.
use Rattle.std.proofs.Common.{◌≡◌, ◌-◌}
use Rattle.queue.proofs.Laws.{shut}
use Rattle.queue.proofs.close_up.Given as goal

abbrev pub invariant-loop-i : goal.invariant-loop-i
invariant-loop-i g l = shut l.row (l.i - 1) l.x ≡ shut l.initial.row l.k l.x
