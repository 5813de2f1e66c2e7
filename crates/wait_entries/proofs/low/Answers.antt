-- `low` meets its contract: each combination is tested, or one that is too high is found. Assumes nothing.
use Rattle.std.proofs.Common.{rules, ◌≡◌, ℕ, ◌+◌, ◌<◌, ◌≤◌, true, false, length, get_or}
use Rattle.std.proofs.iter.runs.Made.{chains}
use native.Mathlib.Omega.{arith}
use borrow.Author.Tests.{lt-ltb, le-ltb}
use lib.Dec.{ltb}
use Rattle.open_shape.proofs.Turns.{all_tested}
use Rattle.wait_entries.proofs.low.Goals as goal

pub returns : goal.returns
returns c =
    let ms = c.args.combos.now in
    let top = c.args.top in
    let yes : c.all.result ≡ true → (i : ℕ) → i < length ms → get_or ms i 0 ≤ top = search (rules, chains) in
    let no : c.all.result ≡ false → (i : ℕ) × (i < length ms) × (top < get_or ms i 0) = search (rules, chains) in
    all_tested (λ m. ltb m (top + 1)) 0 ms c.all.result (λ e i h. lt-ltb _ _ (omega (arith, yes e i h)))
    (λ e. let (i, h, g) = no e in (i, h, le-ltb _ _ (omega (arith, g))))
