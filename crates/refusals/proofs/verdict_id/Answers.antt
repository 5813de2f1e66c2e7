-- `verdict_id` meets its contract: its two tests are those of the list. Assumes nothing.
use Prim.Native.Nat.{◌≤◌, ◌<◌}
use borrow.Author.Tests.{lt-ltb, le-ltb}
use Rattle.steps.proofs.Laws.{met, past, none}
use Rattle.refusals.proofs.Laws.{own_desk, other_desk}
use borrow.Author.Rules.{rules}
use Rattle.refusals.proofs.verdict_id.Goals as goal

pub returns-then-id-ge-REQUESTS : goal.returns-then-id-ge-REQUESTS
returns-then-id-ge-REQUESTS c = let h : 63 < c.args.id = search rules in met _ _ _ (lt-ltb _ _ h)

pub returns-then-of-desk : goal.returns-then-of-desk
returns-then-of-desk c =
    let h : c.args.id ≤ 63 = search rules in
    past _ _ _ (le-ltb _ _ h) (met _ _ _ (other_desk c.of.ensures c.if-of-desk.true))

pub returns : goal.returns
returns c =
    let h : c.args.id ≤ 63 = search rules in
    past _ _ _ (le-ltb _ _ h) (past _ _ _ (own_desk c.of.ensures c.if-of-desk.false) none)
