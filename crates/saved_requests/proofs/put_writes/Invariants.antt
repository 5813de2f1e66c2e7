-- `put_writes` meets its contract: after i turns the writes of the first i channels stand there. Assumes nothing.
use lib.ListN.{take}
use Rattle.hex_lines.specs.HexLines.{Put}
use Rattle.frame_lines.specs.saved.Saved.{spelt}
use Rattle.frame_lines.specs.FrameLines.{writes_in}
use Rattle.saved_requests.proofs.put_writes.Given as goal

abbrev pub invariant-loop-i : goal.invariant-loop-i
invariant-loop-i l = Put l.initial.out l.at (spelt (writes_in l.table 0 (take l.i l.c-items))) l.p l.out
