-- `channel_of` meets its contract: each part of the channel is read where `channel_from` reads it. Assumes nothing.
use Rattle.sheet.specs.Sheet.{channel_from}
use Rattle.channel_frames.proofs.channel_of.Goals as goal

pub returns : goal.returns
unfolding channel_from
returns c = rw (c.empty.ensures, c.key_at.ensures)
