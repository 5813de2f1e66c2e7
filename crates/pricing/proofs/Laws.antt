-- Why the lower price costs less: the number stolen is below 256, so the highest precedence is weighed first. Assumes nothing.
use Prim.Native.Nat.{ℕ, ◌+◌, ◌*◌, ◌<◌}
use mathlib.Core.Path.{◌≡◌}
use mathlib.Core.Logic.{inl, inr, ◌↔◌}
use mathlib.Core.List.{List}
use native.Mathlib.Omega.{arith}
use lib.Dec.{ltb, ltb→lt, nltb→le}
use Rattle.machine.specs.State.{Channel}
use Rattle.machine.specs.Choosing.{highest, stolen}
use Rattle.machine.specs.Rule.{CostsLess}
use Rattle.machine.proofs.Tests.{by_test}
use Rattle.pricing.specs.Pricing.{price}

pub price_less : (m o : ℕ) (cs : List Channel) → stolen m cs < 256 → stolen o cs < 256 → CostsLess m o cs ↔ (price m cs < price o cs)
unfolding price
price_less m o cs h k = (up, down)
  where
    up : CostsLess m o cs → highest m cs * 256 + stolen m cs < highest o cs * 256 + stolen o cs
    up (inl l) = omega arith
    up (inr s) = omega (arith, s.0, s.1)

    down : highest m cs * 256 + stolen m cs < highest o cs * 256 + stolen o cs → CostsLess m o cs
    down l =
        by_test (ltb (highest m cs) (highest o cs))
        (λ t. inl (ltb→lt (highest m cs) (highest o cs) t))
        (λ t. let g = nltb→le (highest m cs) (highest o cs) t in
        let e : highest m cs ≡ highest o cs = omega arith in
        inr (e, omega arith))
