-- `put_all` meets its contract: after i turns the lines of the first i records stand in front. Assumes nothing.
use Prim.Native.Nat.{◌≤◌, ◌-◌}
use mathlib.Core.Path.{◌≡◌}
use lib.ListN.{length}
use Rattle.spelling.specs.memory.Splice.{splice}
use Rattle.lines.specs.Lines.{record_lines}
use Rattle.lines.proofs.put_all.Given as goal

abbrev pub invariant-loop-i : goal.invariant-loop-i
invariant-loop-i l = (l.i ≤ l.n) × (length l.out ≡ length l.initial.out) × (l.out ≡ splice l.initial.out 0 (record_lines l.i l.replies))
