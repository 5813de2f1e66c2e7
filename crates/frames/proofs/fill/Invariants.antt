-- `fill` meets its contract: after k turns the first k combinations are written. Assumes nothing.
use Rattle.std.proofs.Common.{◌≡◌, ℕ, ◌+◌, ◌<◌, get_or}
use Rattle.digits.specs.Digits.{pairs}
use Rattle.frames.proofs.fill.Given as goal

abbrev pub invariant-loop-k : goal.invariant-loop-k
invariant-loop-k l = (j : ℕ) → j < l.k → get_or l.combo-items j 0 ≡ get_or (pairs l.line) (j + 8) 0
