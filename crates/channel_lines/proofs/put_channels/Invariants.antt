-- `put_channels` meets its contract: after i turns the lines of the first i channels stand in front. Assumes nothing.
use mathlib.Core.Path.{◌≡◌}
use lib.ListN.{length, take}
use Rattle.spelling.specs.memory.Splice.{splice}
use Rattle.channel_lines.specs.ChannelLines.{channel_lines}
use Rattle.channel_lines.proofs.put_channels.Given as goal

abbrev pub invariant-loop-i : goal.invariant-loop-i
invariant-loop-i l = (length l.out ≡ length l.initial.out) × (l.out ≡ splice l.initial.out 0 (channel_lines 0 (take l.i l.cs)))
