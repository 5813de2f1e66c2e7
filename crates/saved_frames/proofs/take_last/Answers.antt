-- `take_last` meets its contract: a frame that is no last key is passed over; any other sets it. Assumes nothing.
use mathlib.Core.Path.{◌≡◌}
use native.Mathlib.Omega.{arith}
use lib.ListN.{length}
use Rattle.channel_frames.proofs.sheet.Taking.{last_passed, last_took}
use Rattle.saved_frames.proofs.take_last.Goals as goal

pub returns-then-f-ne3 : goal.returns-then-f-ne3
returns-then-f-ne3 c = let a = c.args in last_passed a.f.now a.s (λ h. omega arith)

pub returns : goal.returns
returns c = let a = c.args in last_took a.f.now a.s _ (let z : length a.f.now ≡ 3 = omega arith in z) c.key_at.ensures
