-- `put_opens` meets its contract: after i turns the lines of the first i keys stand there. Assumes nothing.
use mathlib.Core.List.{map}
use lib.ListN.{take}
use Rattle.saved_channels.specs.hex_lines.HexLines.{Put}
use Rattle.saved_channels.specs.saved.Saved.{OPEN, key_frame, spelt}
use Rattle.saved_lines.proofs.put_opens.Given as goal

abbrev pub invariant-loop-key : goal.invariant-loop-key
invariant-loop-key l = Put l.initial.out l.at (spelt (map (key_frame OPEN) (take l.key-index l.key-items))) l.p l.out
