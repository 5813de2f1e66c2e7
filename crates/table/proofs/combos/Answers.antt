-- `combos` meets its contract: a part of the table that lies within the entry. Assumes nothing.
use Prim.Native.Nat.{◌*◌, ◌+◌, ◌-◌}
use mathlib.Core.Path.{◌≡◌}
use lib.ListN.{get_or}
use Rattle.memory.specs.Splice.{block}
use Rattle.table.proofs.Laws.{part_in}
use native.Mathlib.Omega.{arith}
use Rattle.table.proofs.combos.Goals as goal

pub returns : goal.returns
returns c =
    let a = c.args in
    let n = c.count-n in
    let l = c.requires in
    let e : (a.id * 23 + 7 + n.result) - (a.id * 23 + 7) ≡ n.result = omega arith in
    rw e (rw n.ensures (part_in a.table.now a.id 7 (get_or (block 23 a.table.now a.id) 6 0) (omega (arith, l.2)) (omega arith)))
