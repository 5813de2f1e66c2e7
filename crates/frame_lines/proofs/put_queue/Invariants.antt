-- `put_queue` meets its contract: after i turns the lines of the first i requests stand there. Assumes nothing.
use mathlib.Core.List.{map}
use lib.ListN.{take}
use Rattle.hex_lines.specs.HexLines.{Put}
use Rattle.saved.specs.Saved.{spelt}
use Rattle.frame_lines.specs.FrameLines.{entry_frame}
use Rattle.frame_lines.proofs.put_queue.Given as goal

abbrev pub invariant-loop-id : goal.invariant-loop-id
invariant-loop-id l = Put l.initial.out l.at (spelt (map (entry_frame l.first l.channel l.table) (take l.id-index l.id-items))) l.p l.out
