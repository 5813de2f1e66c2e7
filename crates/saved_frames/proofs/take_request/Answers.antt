-- `take_request` meets its contract: a frame that is no request, or has no place, is passed over; any other puts its entry and its id.
-- Assumes nothing.
use Prim.Native.Nat.{◌≤◌, ◌<◌}
use mathlib.Core.Path.{◌∙◌}
use native.Mathlib.Omega.{arith}
use lib.ListN.{length, get_or}
use Rattle.channel_frames.specs.sheet.Sheet.{request_entry}
use Rattle.channel_frames.proofs.sheet.Taking.{rest_is_drop, has_request_lem, request-passed, request-took}
use Rattle.saved_frames.proofs.take_request.Goals as goal

pub returns-then-n-lt7 : goal.returns-then-n-lt7
returns-then-n-lt7 c =
    let a = c.args in
    request-passed a.f.now a.s a.table.now (λ t. let h = has_request_lem a.f.now a.s a.table.now t in omega (arith, h.0, h.1, h.2, h.3))

pub returns-then-n-gt23 : goal.returns-then-n-gt23
returns-then-n-gt23 c =
    let a = c.args in
    request-passed a.f.now a.s a.table.now (λ t. let h = has_request_lem a.f.now a.s a.table.now t in omega (arith, h.0, h.1, h.2, h.3))

pub returns-then-f-ge-REQUESTS : goal.returns-then-f-ge-REQUESTS
returns-then-f-ge-REQUESTS c =
    let a = c.args in
    request-passed a.f.now a.s a.table.now (λ t. let h = has_request_lem a.f.now a.s a.table.now t in omega (arith, h.0, h.1, h.2, h.3))

pub returns-then-q-ge-REQUESTS : goal.returns-then-q-ge-REQUESTS
returns-then-q-ge-REQUESTS c =
    let a = c.args in
    request-passed a.f.now a.s a.table.now (λ t. let h = has_request_lem a.f.now a.s a.table.now t in omega (arith, h.0, h.1, h.2, h.3))

pub returns : goal.returns
unfolding request_entry
returns c =
    let a = c.args in
    request-took a.f.now a.s a.table.now _ _ (let z : 7 ≤ length a.f.now = omega arith in z) (let z : length a.f.now ≤ 23 = omega arith in z) (let z : get_or a.f.now 1 0 < 64 = omega arith in z) (let z : a.s.waiting.n < 64 = omega arith in z) c.push-more.ensures
    (c.put_all.ensures ∙ rw (c.key_at.ensures, rest_is_drop 7 a.f.now))
