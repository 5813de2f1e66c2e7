-- `matches` meets its contract, case by case of its two tests. Assumes nothing.
use mathlib.Core.Path.{◌≡◌}
use borrow.Author.Tests.{eq-eqb, ne_eqb}
use Rattle.channel.specs.Channel.{has_key}
use Rattle.channel.proofs.Channel.matches.Goals as goal

pub returns-then-key-ne0 : goal.returns-then-key-ne0
unfolding has_key
returns-then-key-ne0 c =
    let n : c.args.key ≡ 0 → ⊥ = c.if-key-ne0.true in
    rw (ne_eqb _ _ n)

pub returns-else-key-ne0 : goal.returns-else-key-ne0
unfolding has_key
returns-else-key-ne0 c =
    let e : c.args.key ≡ 0 = c.if-key-ne0.false in
    rw (eq-eqb _ _ e)
