-- `put_record` meets its contract: E1 and the record's digits stand one behind the other, and LF ends them. Assumes nothing.
use native.Mathlib.Omega.{arith}
use lib.ListN.{length-set}
use Rattle.display_lines.proofs.DisplayLines.{record_put}
use Rattle.display_lines.proofs.put_record.Goals as goal

pub shape_of-out : goal.shape_of-out
shape_of-out c = simp length-set (omega arith)

pub returns : goal.returns
returns c =
    let a = c.args in
    rw (c.put_bytes.ensures, c.put_byte.ensures) (record_put a.out.now a.at 0xE1 a.bs.now c.requires.0 c.requires.1)
