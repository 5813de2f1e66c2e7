-- `put_all` meets its contract: the combinations overwrite the first of sixteen zeros. Assumes nothing.
use Prim.Native.Nat.{◌*◌, ◌+◌}
use mathlib.Core.Path.{refl, ◌∙◌}
use native.Mathlib.Omega.{arith}
use lib.ListN.{replicate, length}
use Rattle.memory.proofs.Splice.{splice-over}
use Rattle.table.specs.Entry.{head_bytes}
use Rattle.table.proofs.Laws.{drop-zeros}
use Rattle.table.proofs.put_all.Goals as goal

pub returns : goal.returns
returns c =
    let a = c.args in
    let m = a.combos.now in
    let d = drop-zeros (length m) 16 (omega arith) in
    let s = splice-over a.table.now (a.id * 23) (head_bytes a.h) (replicate 16 0) m (a.id * 23 + 7) refl (omega arith) (omega arith) in
    c.copy.ensures ∙ (rw c.put.ensures (rw d at s))
