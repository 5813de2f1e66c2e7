-- `take_part` meets its contract: by the first byte it is the step of that kind, and a frame of no kind is passed over. Assumes nothing.
use mathlib.Core.Path.{◌≡◌}
use native.Mathlib.Omega.{arith}
use Rattle.channel_frames.proofs.sheet.Taking.{part_request, part_lock, part_waiter, part_write, part_open, part_last, part_none}
use Rattle.saved_frames.proofs.take_part.Goals as goal

pub returns-in-210 : goal.returns-in-210
returns-in-210 c =
    let a = c.args in
    part_request a.first a.f.now a.s a.table.now a.kept.now _ _ (let z : a.first ≡ 210 = omega arith in z) c.take_request.ensures

pub returns-in-211 : goal.returns-in-211
returns-in-211 c =
    let a = c.args in
    part_lock a.first a.f.now a.s a.table.now a.kept.now _ _ (let z : a.first ≡ 211 = omega arith in z) c.take_lock.ensures

pub returns-in-212 : goal.returns-in-212
returns-in-212 c =
    let a = c.args in
    part_waiter a.first a.f.now a.s a.table.now a.kept.now _ _ (let z : a.first ≡ 212 = omega arith in z) c.take_waiter.ensures

pub returns-in-213 : goal.returns-in-213
returns-in-213 c =
    let a = c.args in
    part_write a.first a.f.now a.s a.table.now a.kept.now _ _ (let z : a.first ≡ 213 = omega arith in z) c.take_write.ensures

pub returns-in-214 : goal.returns-in-214
returns-in-214 c =
    let a = c.args in
    part_open a.first a.f.now a.s a.table.now a.kept.now _ (let z : a.first ≡ 214 = omega arith in z) c.take_open.ensures

pub returns-in-215 : goal.returns-in-215
returns-in-215 c =
    let a = c.args in
    part_last a.first a.f.now a.s a.table.now a.kept.now _ (let z : a.first ≡ 215 = omega arith in z) c.take_last.ensures

pub returns-in_default : goal.returns-in_default
returns-in_default c =
    let a = c.args in
    part_none a.first a.f.now a.s a.table.now a.kept.now (λ e. omega arith) (λ e. omega arith) (λ e. omega arith) (λ e. omega arith) (λ e. omega arith) (λ e. omega arith)
