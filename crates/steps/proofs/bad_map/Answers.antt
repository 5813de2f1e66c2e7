-- `bad_map` meets its contract: its test is the one test of the list. Assumes nothing.
use Prim.Native.Nat.{◌+◌, ◌≤◌, ◌<◌}
use Rattle.steps.proofs.Laws.{high_true, high_false, met, past, none}
use borrow.Author.Rules.{rules}
use Rattle.steps.proofs.bad_map.Goals as goal

pub returns-then-map-top : goal.returns-then-map-top
returns-then-map-top c = let h : c.args.top + 1 ≤ c.args.map = search rules in met _ _ _ (high_true h)

pub returns : goal.returns
returns c = let h : c.args.map < c.args.top + 1 = search rules in past _ _ _ (high_false h) none
