-- `bad_list` meets its contract: its two tests are those of the list, in their order. Assumes nothing.
use Prim.Native.Nat.{◌≤◌, ◌<◌}
use lib.ListN.{length}
use mathlib.Core.Path.{sym, ◌∙◌}
use borrow.Author.Tests.{lt-ltb, le-ltb}
use Rattle.steps.proofs.Laws.{met, past, none}
use borrow.Author.Rules.{rules}
use Rattle.steps.proofs.bad_list.Goals as goal

pub returns-then-combos-gt-COMBOS : goal.returns-then-combos-gt-COMBOS
returns-then-combos-gt-COMBOS c = let h : 16 < length c.args.combos.now = search rules in met _ 252 _ (lt-ltb _ _ h)

pub returns-then-any_high : goal.returns-then-any_high
returns-then-any_high c =
    let h : length c.args.combos.now ≤ 16 = search rules in
    past _ _ _ (le-ltb _ _ h) (met _ _ _ (sym c.any_high.ensures ∙ c.if-any_high.true))

pub returns : goal.returns
returns c =
    let h : length c.args.combos.now ≤ 16 = search rules in
    past _ _ _ (le-ltb _ _ h) (past _ _ _ (sym c.any_high.ensures ∙ c.if-any_high.false) none)
