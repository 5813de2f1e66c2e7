-- `take_channel` meets its contract: a frame that is no channel, or has no place, is passed over; any other is the next channel.
-- Assumes nothing.
use Prim.Native.Nat.{◌*◌, ◌<◌}
use mathlib.Core.Path.{◌≡◌, ap, ◌∙◌}
use native.Mathlib.Omega.{arith}
use lib.ListN.{length}
use Rattle.memory.specs.Splice.{splice}
use Rattle.sheet.proofs.Taking.{rest_is_drop, has_channel_lem, channel-passed, channel-took}
use Rattle.channel_frames.proofs.take_channel.Goals as goal

pub returns-then-f-ne12 : goal.returns-then-f-ne12
returns-then-f-ne12 c =
    let a = c.args in
    channel-passed a.f.now a.d.state a.d.seen a.kept.now (λ t. let h = has_channel_lem a.f.now a.d.state a.d.seen a.kept.now t in omega (arith, h.0, h.1))

pub returns-then-i-ge8 : goal.returns-then-i-ge8
returns-then-i-ge8 c =
    let a = c.args in
    channel-passed a.f.now a.d.state a.d.seen a.kept.now (λ t. let h = has_channel_lem a.f.now a.d.state a.d.seen a.kept.now t in omega (arith, h.0, h.1))

pub returns : goal.returns
returns c =
    let a = c.args in
    channel-took a.f.now a.d.state a.d.seen a.kept.now _ _ (let z : length a.f.now ≡ 12 = omega arith in z) (let z : a.d.seen < 8 = omega arith in z) c.channel_of.ensures (c.copy.ensures ∙ ap (splice a.kept.now (a.d.seen * 6)) (rest_is_drop 6 a.f.now))
