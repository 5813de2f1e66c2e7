-- `put_channel` meets its contract: its head is made of the channel's numbers, and what is remembered stands behind. Assumes nothing.
use borrow.Author.Rules.{rules}
use mathlib.Core.Path.{refl, ◌∙◌}
use Rattle.frame_lines.proofs.FrameLines.{put_as, high_byte, low_byte, mark_from, channel_line_lem}
use Rattle.saved_channels.proofs.put_channel.Goals as goal

pub returns : goal.returns
returns c =
    let k = c.args.c.key in
    put_as c.put_line.ensures
    (channel_line_lem c.args.table.now c.args.c
    (high_byte k c.to_be_bytes.ensures (search rules)) (low_byte k c.to_be_bytes.ensures) refl
    (c.from.ensures ∙ mark_from _) (c.from-2.ensures ∙ mark_from _) c.kept-tail.ensures)
