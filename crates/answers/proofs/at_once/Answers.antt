-- `at_once` meets its contract: no reply where QUICK is set. Assumes nothing.
use mathlib.Core.Path.{refl, sym, ◌∙◌}
use native.Mathlib.Nat.{add-zero}
use Rattle.memory.proofs.Splice.{splice_none}
use Rattle.answers.proofs.at_once.Goals as goal

pub returns-then-is_quick : goal.returns-then-is_quick
returns-then-is_quick c = rw (sym c.is_quick.ensures ∙ c.if-is_quick.true) (refl, sym (add-zero _), sym (splice_none _ _))
