-- `eight` meets its contract: a word is 0 where its bytes are. Assumes nothing.
use Prim.Native.Nat.{ℕ}
use mathlib.Core.Path.{refl, ap, ◌∙◌}
use borrow.Author.Tests.{lt-leb, le-leb}
use lib.Dec.{eqb}
use Rattle.words.proofs.Laws.{number_none}
use Rattle.table_rest.proofs.eight.Goals as goal

pub returns-then-i-lt8 : goal.returns-then-i-lt8
returns-then-i-lt8 c = rw (lt-leb 8 _ c.if-i-lt8.true) refl

pub returns : goal.returns
returns c = rw (le-leb 8 _ c.if-i-lt8.false) (ap (λ (x : ℕ). eqb x 0) c.at.ensures ∙ number_none _)
