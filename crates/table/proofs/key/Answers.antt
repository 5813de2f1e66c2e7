-- `key` meets its contract: the key's bytes are 1 and 2 of the entry. Assumes nothing.
use Prim.Native.Nat.{◌*◌, ◌+◌}
use mathlib.Core.Path.{◌≡◌}
use native.Mathlib.Omega.{arith}
use Rattle.memory.proofs.Splice.{block_byte}
use Rattle.table.proofs.key.Goals as goal

pub returns : goal.returns
returns c =
    let a = c.args in
    let e : a.id * 23 + 1 + 1 ≡ a.id * 23 + 2 = omega arith in
    rw (block_byte 23 a.table.now a.id 1 (omega arith), block_byte 23 a.table.now a.id 2 (omega arith)) (rw e at c.key_at.ensures)
