-- `verdict_open` meets its contract: the tests of the list come first, and then that of the number of open keys. Assumes nothing.
use Prim.Native.Nat.{◌≤◌, ◌<◌}
use mathlib.Core.Path.{◌≡◌, ◌∙◌}
use borrow.Author.Tests.{le-leb, lt-leb}
use Rattle.steps.specs.Steps.{number, number_in}
use Rattle.steps.proofs.Laws.{met_before, list_past, met, past, none}
use borrow.Author.Rules.{rules}
use Rattle.refusals.proofs.verdict_open.Goals as goal

pub returns-in_err-bad_list : goal.returns-in_err-bad_list
returns-in_err-bad_list c =
    let e : number_in c.from_residual.result ≡ number c.in_err-bad_list.field-0.0 = search rules in
    e ∙ met_before _ _ _ c.in_err-bad_list.ensures

pub returns-then-opens-ge-OPENS : goal.returns-then-opens-ge-OPENS
returns-then-opens-ge-OPENS c =
    let n = c.args.opens in
    let h : 32 ≤ n = search rules in
    list_past _ _ _ c.in_ok-bad_list.ensures (met _ _ _ (le-leb _ _ h))

pub returns : goal.returns
returns c =
    let n = c.args.opens in
    let h : n < 32 = search rules in
    list_past _ _ _ c.in_ok-bad_list.ensures (past _ _ _ (lt-leb _ _ h) none)
