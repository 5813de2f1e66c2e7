-- `of` meets its contract: the test is the definition's. Assumes nothing.
use Prim.Native.Nat.{◌≤◌, ◌<◌}
use mathlib.Core.Path.{refl}
use borrow.Author.Tests.{lt-ltb, le-ltb}
use Rattle.machine.specs.Desks.{desk_of}
use Rattle.desks.proofs.of.Goals as goal

pub returns-then-id-lt-HALF : goal.returns-then-id-lt-HALF
unfolding desk_of
returns-then-id-lt-HALF c = let h : c.args.id < 32 = c.if-id-lt-HALF.true in rw (lt-ltb _ _ h) refl

pub returns-else-id-lt-HALF : goal.returns-else-id-lt-HALF
unfolding desk_of
returns-else-id-lt-HALF c = let h : 32 ≤ c.args.id = c.if-id-lt-HALF.false in rw (le-ltb _ _ h) refl
