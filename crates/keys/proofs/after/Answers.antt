-- `after` meets its contract: the two cases of the definition. Assumes nothing.
use borrow.Author.Tests.{lt-ltb, le-ltb}
use Rattle.store.specs.machine.Granting.{after}
use Rattle.keys.proofs.after.Goals as goal

pub returns-then-k-lt65535 : goal.returns-then-k-lt65535
unfolding after
returns-then-k-lt65535 c = rw (lt-ltb _ _ c.if-k-lt65535.true)

pub returns-else-k-lt65535 : goal.returns-else-k-lt65535
unfolding after
returns-else-k-lt65535 c = rw (le-ltb _ _ c.if-k-lt65535.false)
