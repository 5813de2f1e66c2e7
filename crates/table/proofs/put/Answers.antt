-- `put` meets its contract: a head, and sixteen zeros behind it. Assumes nothing.
use Prim.Native.Nat.{◌*◌, ◌+◌}
use mathlib.Core.Path.{refl, ◌∙◌}
use native.Mathlib.Omega.{arith}
use lib.ListN.{replicate}
use Rattle.memory.proofs.Splice.{splice_then}
use Rattle.table.specs.Entry.{head_bytes}
use Rattle.table.proofs.put.Goals as goal

pub returns : goal.returns
returns c =
    let a = c.args in
    c.clear.ensures ∙ (rw c.put_head.ensures (splice_then a.table.now (a.id * 23) (head_bytes a.h) (replicate 16 0) (a.id * 23 + 7) refl (omega arith)))
