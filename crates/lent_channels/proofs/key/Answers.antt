-- `key` meets its contract: the key of channel i stands there. Assumes nothing.
use mathlib.Core.Path.{ap, sym, ◌∙◌}
use Rattle.channel.specs.declared.Channel.{Channel}
use Rattle.image.specs.Image.{channel_at}
use Rattle.lent.proofs.Puts.{channel_read}
use Rattle.lent_channels.proofs.key.Goals as goal

pub returns : goal.returns
unfolding channel_at
returns c =
    c.key_at.ensures
    ∙ sym (ap (λ (x : Channel). x.key) (channel_read c.args.state.now c.args.i c.requires.0))
