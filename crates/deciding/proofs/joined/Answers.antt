-- `joined` meets its contract. Assumes nothing.
use mathlib.Core.Path.{refl}
use borrow.Author.Tests.{lt-ltb, le-ltb}
use Rattle.deciding.proofs.joined.Goals as goal

pub returns-then-waited-wait : goal.returns-then-waited-wait
returns-then-waited-wait c = rw (lt-ltb _ _ c.if-waited-wait.true) c.word.ensures

pub returns : goal.returns
returns c = rw (le-ltb _ _ c.if-waited-wait.false) refl
