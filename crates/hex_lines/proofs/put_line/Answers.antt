-- `put_line` meets its contract: the digits of both runs of bytes stand one behind the other, and LF ends them. Assumes nothing.
use Prim.Native.Nat.{◌+◌}
use mathlib.Core.Path.{refl}
use mathlib.Core.List.{◌++◌}
use native.Mathlib.Omega.{arith}
use lib.ListN.{length-set, length-append}
use Rattle.hex_lines.proofs.HexLines.{line_put, length_line}
use Rattle.hex_lines.proofs.put_line.Goals as goal

pub shape_of-out : goal.shape_of-out
shape_of-out c = simp length-set (omega arith)

pub returns : goal.returns
returns c =
    let a = c.args in
    let n = length_line (a.head.now ++ a.tail.now) in
    let m = length-append a.head.now a.tail.now in
    record {
      bytes = rw (c.put_bytes-2.ensures, c.put_bytes.ensures) (line_put a.out.now a.at a.head.now a.tail.now _ _ refl refl (omega arith));
      next = omega arith;
    }
