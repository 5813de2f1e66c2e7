-- `head` meets its contract: six bytes of channel i. Assumes nothing.
use mathlib.Core.Path.{ap, sym}
use Rattle.image.specs.Image.{channel_at, queue_at}
use Rattle.lent_channels.specs.Heads.{head_in}
use Rattle.lent.proofs.Puts.{channel_read}
use Rattle.lent_channels.proofs.head.Goals as goal

pub returns : goal.returns
unfolding channel_at queue_at
returns c = rw c.key_at-key.ensures (sym (ap head_in (channel_read c.args.state.now c.args.i c.requires.0)))
