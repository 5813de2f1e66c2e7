-- `taking` meets its contract: the last key changes where a new one was asked for. Assumes nothing.
use mathlib.Core.Path.{◌≡◌}
use native.Mathlib.Omega.{arith}
use borrow.Author.Tests.{eq-eqb, ne_eqb}
use Rattle.granting.proofs.taking.Goals as goal

pub returns-then-key-eq0 : goal.returns-then-key-eq0
returns-then-key-eq0 c = let z : c.args.key ≡ 0 = omega (arith, c.if-key-eq0.true) in rw (eq-eqb _ _ z)

pub returns-else-key-eq0 : goal.returns-else-key-eq0
returns-else-key-eq0 c = let z : c.args.key ≡ 0 → ⊥ = λ e. omega (arith, c.if-key-eq0.false, e) in rw (ne_eqb _ _ z)
