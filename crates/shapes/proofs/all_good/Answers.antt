-- `all_good` meets its contract: each channel is tested, or one that fails is found. Assumes nothing.
use Rattle.std.proofs.Common.{rules, ◌≡◌, ℕ, ◌<◌, true, false, [], length, get_or}
use Rattle.std.proofs.iter.runs.Made.{chains}
use borrow.Author.Tests.{eq-eqb}
use Rattle.channel.specs.declared.Channel.{Channel}
use Rattle.shapes.specs.Shapes.{good}
use Rattle.open_shape.proofs.Turns.{all_tested}
use Rattle.shapes.proofs.all_good.Goals as goal

pub returns : goal.returns
returns c =
    let cs = c.args.cs in
    let h : length cs ≡ 8 = search rules in
    let d : Channel = record { key = 0; prec = 0; locked = false; stopped = false; writes = record { n = 0; ids = [] } } in
    let yes : c.all.result ≡ true → (i : ℕ) → i < length cs → good (get_or cs i d) ≡ true = search (rules, chains) in
    let no : c.all.result ≡ false → (i : ℕ) × (i < length cs) × (good (get_or cs i d) ≡ false) = search (rules, chains) in
    rw (eq-eqb _ _ h) (all_tested good d cs c.all.result yes no)
