-- `read` meets its contract: what the lines that are left make of what was read so far is what all make of a fresh state. Assumes nothing.
use Prim.Native.Nat.{◌-◌, ◌≤◌}
use mathlib.Core.Path.{◌≡◌}
use lib.ListN.{length, drop}
use Rattle.saved_frames.specs.sheet.Sheet.{sheet, taken_all}
use Rattle.reading.specs.Reading.{frames_in, read_from}
use Rattle.reading.proofs.read.Given as goal

abbrev pub invariant-loop-at : goal.invariant-loop-at
invariant-loop-at l = (l.at ≤ length l.text) × (length l.table ≡ 1472) × (length l.kept ≡ 48) × (length l.d.state.channels ≡ 8)
    × (taken_all (frames_in (drop l.at l.text)) (sheet l.d.state l.d.seen l.table l.kept) ≡ read_from (drop l.from l.text) l.initial.table)

abbrev pub decreases-loop-at : goal.decreases-loop-at
decreases-loop-at l = length l.text - l.at
