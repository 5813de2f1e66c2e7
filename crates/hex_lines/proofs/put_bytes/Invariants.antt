-- `put_bytes` meets its contract: a byte's two digits stand behind those of the bytes before it. Assumes nothing.
use Prim.Native.Nat.{◌+◌, ◌-◌, ◌*◌, ◌≤◌}
use mathlib.Core.Path.{◌≡◌}
use lib.ListN.{length, take}
use Rattle.spelling.specs.memory.Splice.{splice}
use Rattle.spelling.specs.Spelling.{digits}
use Rattle.hex_lines.proofs.put_bytes.Given as goal

abbrev pub invariant-loop-i : goal.invariant-loop-i
invariant-loop-i l = (l.i ≤ length l.bs) × (l.at + 2 * length l.bs ≤ length l.initial.out) × (length l.out ≡ length l.initial.out) × (l.out ≡ splice l.initial.out l.at (digits (take l.i l.bs)))
