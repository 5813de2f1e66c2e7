-- `take` meets its contract: an empty frame is passed over, one of a channel is the next channel, and any other leaves how many were read.
-- Assumes nothing.
use mathlib.Core.Path.{◌≡◌}
use native.Mathlib.Omega.{arith}
use lib.ListN.{length, get_or}
use Rattle.channel_frames.proofs.sheet.Taking.{empty_passed, taken-channel, taken_part}
use Rattle.saved_frames.proofs.take.Goals as goal

pub returns-then-f-eq0 : goal.returns-then-f-eq0
returns-then-f-eq0 c =
    let a = c.args in
    empty_passed a.f.now a.d.state a.d.seen a.table.now a.kept.now (let z : length a.f.now ≡ 0 = omega arith in z)

pub returns-then-f : goal.returns-then-f
returns-then-f c =
    let a = c.args in
    taken-channel a.f.now a.d.state a.d.seen a.table.now a.kept.now _ _ (let z : get_or a.f.now 0 0 ≡ 209 = omega arith in z) c.take_channel.ensures

pub returns : goal.returns
returns c =
    let a = c.args in
    taken_part a.f.now a.d.state a.d.seen a.table.now a.kept.now _ _ (λ e. omega arith) c.take_part-t.ensures
