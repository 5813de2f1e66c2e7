-- `take_open` meets its contract: a frame that is no open key, or has no place, is passed over; any other adds its key. Assumes nothing.
use Prim.Native.Nat.{◌<◌}
use mathlib.Core.Path.{◌≡◌, ap, ◌∙◌}
use native.Mathlib.Omega.{arith}
use lib.ListN.{length}
use Rattle.channel_frames.specs.sheet.Sheet.{added_key}
use Rattle.channel_frames.proofs.sheet.Taking.{has_open_lem, open_passed, open_took}
use Rattle.saved_frames.proofs.take_open.Goals as goal

pub returns-then-f-ne3 : goal.returns-then-f-ne3
returns-then-f-ne3 c =
    let a = c.args in
    open_passed a.f.now a.s (λ t. let h = has_open_lem a.f.now a.s t in omega (arith, h.0, h.1))

pub returns-then-q-ge32 : goal.returns-then-q-ge32
returns-then-q-ge32 c =
    let a = c.args in
    open_passed a.f.now a.s (λ t. let h = has_open_lem a.f.now a.s t in omega (arith, h.0, h.1))

pub returns : goal.returns
returns c =
    let a = c.args in
    open_took a.f.now a.s _ (let z : length a.f.now ≡ 3 = omega arith in z) (let z : a.s.opens.n < 32 = omega arith in z) (c.add-more.ensures ∙ ap (added_key a.s.opens) c.key_at.ensures)
