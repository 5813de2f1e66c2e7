-- `lump` meets its contract: each call uses some of the lump. Assumes nothing.
use Rattle.std.proofs.Common.{length}
use Rattle.arbiter_log.proofs.Desk.lump.Given as goal

abbrev pub decreases-loop-rest : goal.decreases-loop-rest
decreases-loop-rest l = length l.rest
