-- `prec` meets its contract: the precedence of channel i stands there. Assumes nothing.
use mathlib.Core.Path.{ap, sym}
use Rattle.channel.specs.declared.Channel.{Channel}
use Rattle.image.specs.Image.{channel_at}
use Rattle.lent.proofs.Puts.{channel_read}
use Rattle.lent_channels.proofs.prec.Goals as goal

pub returns : goal.returns
unfolding channel_at
returns c = sym (ap (λ (x : Channel). x.prec) (channel_read c.args.state.now c.args.i c.requires.0))
