-- `put_record` meets its contract: the six bytes are the record. Assumes nothing.
use Prim.Native.Nat.{◌+◌, ◌-◌, ◌*◌}
use mathlib.Core.Path.{◌≡◌}
use native.Mathlib.Omega.{arith}
use Rattle.spelling.specs.memory.Splice.{block}
use Rattle.lines.specs.Lines.{record_line}
use Rattle.lines.proofs.put_record.Goals as goal

pub returns : goal.returns
unfolding record_line block
returns c = let six : c.args.i * 6 + 6 - c.args.i * 6 ≡ 6 = omega arith in rw six at c.put_line.ensures.bytes
