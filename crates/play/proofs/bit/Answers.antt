-- `bit` meets its contract: a shift of 1 is a power of 2. Assumes nothing.
use Prim.Native.Nat.{◌+◌, ◌≤◌, ◌^◌, ◌*◌, ◌%◌}
use native.Mathlib.Omega.{arith}
use mathlib.Core.Path.{◌≡◌, ◌∙◌}
use lib.Pow.{shl_exact}
use Rattle.play.proofs.bit.Goals as goal

pub returns : goal.returns
returns c =
    let h : 1 + c.args.i ≤ 8 = omega arith in
    let e : 1 * 2 ^ c.args.i % 2 ^ 8 ≡ 1 * 2 ^ c.args.i = shl_exact 1 c.args.i 8 (omega arith) h in
    e ∙ (let z : 1 * 2 ^ c.args.i ≡ 2 ^ c.args.i = omega arith in z)
