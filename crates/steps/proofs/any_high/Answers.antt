-- `any_high` meets its contract: a place with a high combination is found, or there is none. Assumes nothing.
use Rattle.std.proofs.Common.{rules, ◌≡◌, ℕ, ◌<◌, ◌≤◌, true, false, length, get_or}
use Rattle.std.proofs.iter.runs.Made.{chains}
use Rattle.steps.proofs.Laws.{any_tested}
use Rattle.steps.proofs.any_high.Goals as goal

pub returns : goal.returns
returns c =
    let yes : c.any.result ≡ true → (i : ℕ) × (i < length c.args.combos.now) × (c.args.top < get_or c.args.combos.now i 0) = search (rules, chains) in
    let no : c.any.result ≡ false → (i : ℕ) → i < length c.args.combos.now → get_or c.args.combos.now i 0 ≤ c.args.top = search (rules, chains) in
    any_tested _ _ _ yes no
