-- `channels_at` meets its contract: the channels at eight places, one after another, are those of the definition. Assumes nothing.
use Prim.Native.Nat.{◌*◌}
use Rattle.std.proofs.Common.{rules}
use borrow.Author.Tests.{tests}
use Rattle.image.specs.Image.{channel_at, channels_at}
use Rattle.decoding.proofs.Made.{made}
use Rattle.decoding.proofs.channels_at.Goals as goal

pub returns : goal.returns
unfolding channels_at
returns c =
    let bs = c.args.bytes.now in
    made _ (λ i. channel_at bs (i * 70)) _ _ (λ i y q k. search (rules, tests)) (channel_at bs 0) c.from_fn.ensures.items
