-- `length_of` meets its contract: its arms are the tests of the definition. Assumes nothing.
use mathlib.Core.Path.{ap, ◌∙◌}
use Prim.Native.Nat.{ℕ, ◌+◌}
use native.Mathlib.Omega.{arith}
use Rattle.faults.proofs.Laws.{told_some, told_none, kind_1, kind_2, kind_2_short, kind_3, kind_4, kind_5, kind_6, kind_7, no_kind}
use borrow.Author.Rules.{rules}
use Rattle.faults.proofs.length_of.Goals as goal

pub returns-then-f-lt7 : goal.returns-then-f-lt7
returns-then-f-lt7 c = told_some (omega arith) (kind_2_short _ c.in-210.is c.if-f-lt7.true)

pub returns-in-209 : goal.returns-in-209
returns-in-209 c = told_some (omega arith) (kind_1 _ c.in-209.is)

pub returns-else-f-lt7 : goal.returns-else-f-lt7
returns-else-f-lt7 c = told_some (omega arith) (ap (λ (n : ℕ). 7 + n) c.from.ensures ∙ kind_2 _ c.in-210.is)

pub returns-in-211 : goal.returns-in-211
returns-in-211 c = told_some (omega arith) (kind_3 _ c.in-211.is)

pub returns-in-212 : goal.returns-in-212
returns-in-212 c = told_some (omega arith) (kind_4 _ c.in-212.is)

pub returns-in-213 : goal.returns-in-213
returns-in-213 c = told_some (omega arith) (kind_5 _ c.in-213.is)

pub returns-in-214 : goal.returns-in-214
returns-in-214 c = told_some (omega arith) (kind_6 _ c.in-214.is)

pub returns-in-215 : goal.returns-in-215
returns-in-215 c = told_some (omega arith) (kind_7 _ c.in-215.is)

pub returns-in_default : goal.returns-in_default
returns-in_default c =
    told_none (no_kind _ (search rules) (search rules) (search rules) (search rules) (search rules) (search rules) (search rules))
