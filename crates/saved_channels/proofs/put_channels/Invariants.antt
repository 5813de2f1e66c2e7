-- `put_channels` meets its contract: after i turns the lines of the first i channels stand there. Assumes nothing.
use mathlib.Core.List.{map}
use lib.ListN.{take}
use Rattle.hex_lines.specs.HexLines.{Put}
use Rattle.frame_lines.specs.saved.Saved.{spelt}
use Rattle.frame_lines.specs.FrameLines.{channel_line}
use Rattle.saved_channels.proofs.put_channels.Given as goal

abbrev pub invariant-loop-c : goal.invariant-loop-c
invariant-loop-c l = Put l.initial.out l.at (spelt (map (channel_line l.table) (take l.c-index l.c-items))) l.p l.out
