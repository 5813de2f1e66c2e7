-- `put_records` meets its contract: a struct's line stands behind those of the structs before it. Assumes nothing.
use Prim.Native.Nat.{◌+◌, ◌*◌, ◌≤◌}
use mathlib.Core.Path.{◌≡◌}
use lib.ListN.{length, take}
use Rattle.spelling.specs.memory.Splice.{splice}
use Rattle.display_lines.specs.DisplayLines.{record_lines}
use Rattle.display_lines.proofs.put_records.Given as goal

abbrev pub invariant-loop-i : goal.invariant-loop-i
invariant-loop-i l = (l.at + length l.list * 11 ≤ length l.initial.out) × (length l.out ≡ length l.initial.out)
    × (l.out ≡ splice l.initial.out l.at (record_lines (take l.i l.list)))
