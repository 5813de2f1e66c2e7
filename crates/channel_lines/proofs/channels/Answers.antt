-- `channels` meets its contract: the lines of as many channels as the board has of its own. Assumes nothing.
use mathlib.Core.Path.{◌∙◌}
use borrow.Author.Rules.{rules}
use Rattle.channel_lines.proofs.ChannelLines.{board-shown}
use Rattle.channel_lines.proofs.channels.Goals as goal

pub returns : goal.returns
returns c = board-shown c.args.b (search rules) (c.from-n.ensures ∙ c.min.ensures) c.put_channels.ensures
