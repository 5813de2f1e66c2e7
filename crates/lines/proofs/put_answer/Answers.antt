-- `put_answer` meets its contract: these are the bytes of an answer's line. Assumes nothing.
use Prim.Native.Nat.{◌/◌, ◌%◌}
use mathlib.Core.Path.{◌≡◌}
use native.Mathlib.Omega.{arith}
use Rattle.spelling.specs.machine.Log.{answer_line}
use Rattle.lines.proofs.put_answer.Goals as goal

pub returns : goal.returns
unfolding answer_line
returns c =
    let high : c.args.a.key / 256 % 256 ≡ c.args.a.key / 256 = omega arith in
    rw (c.put_line.ensures.bytes, c.kind.ensures, c.to_be_bytes.ensures, high)
