-- `main` meets its contract: what it begins with is ready. Assumes nothing.
use Rattle.arbiter_log.proofs.Laws.{begun-ready}
use Rattle.arbiter_log.proofs.main.Goals as goal

pub invariant_of-desk : goal.invariant_of-desk
invariant_of-desk c = record { ready = begun-ready c.in-Some.ensures c.save.ensures c.large_buffer.ensures }
