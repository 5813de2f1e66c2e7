-- `make_room` meets its contract: each place takes what the one before it held. Assumes nothing.
use Rattle.std.proofs.Common.{◌≡◌, ℕ, ◌<◌, length, set, get_or}
use mathlib.Core.Path.{refl, ap, ap₂, ◌∙◌}
use native.Mathlib.Omega.{arith}
use Rattle.queue.proofs.Laws.{part, opened, open_turn, open_next, room_made}
use Rattle.queue.proofs.make_room.Goals as goal

pub loop-place-init : goal.loop-place-init
loop-place-init g c = (refl, refl)

pub loop-place-preserved : goal.loop-place-preserved
loop-place-preserved g c =
    let a = c.args in
    let l = c.loop-place in
    let xs = part a.row.now a.k a.x c.requires in
    let h : l.place-index < length xs = c.loop-place-test.true in
    let r = c.replace-carried in
    let put = ap₂ (λ z v. set z l.place-index v) l.invariant.0 (r.ensures.after ∙ l.invariant.1) in
    let took = r.ensures.value ∙ ap (λ z. get_or z l.place-index c.place-item.result) l.invariant.0 in
    (put ∙ open_turn xs a.x l.place-index h, took ∙ open_next xs a.x c.place-item.result l.place-index h)

pub returns : goal.returns
returns g c =
    let a = c.args in
    let l = c.loop-place in
    let xs = part a.row.now a.k a.x c.requires in
    let e : l.place-index ≡ length xs = omega (arith, c.loop-place-test.false, l.auto.place-index-end) in
    room_made a.row.now a.k a.x c.requires l.place-items (l.invariant.0 ∙ ap (λ (i : ℕ). opened xs a.x i) e)
