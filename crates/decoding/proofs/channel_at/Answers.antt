-- `channel_at` meets its contract: each field is read at its place. Assumes nothing.
use mathlib.Core.Path.{refl}
use Rattle.image.proofs.Laws.{channel_read}
use Rattle.decoding.proofs.channel_at.Goals as goal

pub returns : goal.returns
returns c =
    let a = c.args in
    channel_read a.bytes.now a.at c.key_at.ensures refl refl refl c.queue_at-q.ensures
