-- `take_write` meets its contract: a frame that is no write, or has no place, is passed over; any other puts its entry, and its id at the
-- back of its channel. Assumes nothing.
use Prim.Native.Nat.{◌+◌, ◌-◌, ◌*◌, ◌<◌}
use mathlib.Core.Path.{◌≡◌, ap, ◌∙◌}
use mathlib.Core.Bool.{false}
use mathlib.Core.List.{[]}
use native.Mathlib.Omega.{arith}
use lib.ListN.{length, get_or}
use Rattle.store.specs.machine.State.{free}
use Rattle.queue.specs.declared.Queue.{Queue}
use Rattle.channel.specs.declared.Channel.{Channel}
use Rattle.channel.specs.Channel.{channel_of, with_writes}
use Rattle.sheet.specs.Sheet.{write_of}
use Rattle.sheet.proofs.Taking.{get_d_there, has_write_lem, write_passed, write_took}
use Rattle.write_frames.proofs.take_write.Goals as goal

-- what stands for a channel that is not there
abbrev nothing : Channel
nothing = record { key = 0; prec = 0; locked = false; stopped = false; writes = record { n = 0; ids = [] } }

pub returns-then-f-ne9 : goal.returns-then-f-ne9
returns-then-f-ne9 c =
    let a = c.args in
    write_passed a.f.now a.s a.table.now a.kept.now (λ t. let h = has_write_lem a.f.now a.s a.table.now a.kept.now t in omega (arith, h.0, h.1, h.2, h.3))

pub overflow_cast-i : goal.overflow_cast-i
overflow_cast-i c = omega (arith, c.shared_slice_known-3-1.given 1)

pub returns-then-i-ge8 : goal.returns-then-i-ge8
returns-then-i-ge8 c =
    let a = c.args in
    write_passed a.f.now a.s a.table.now a.kept.now (λ t. let h = has_write_lem a.f.now a.s a.table.now a.kept.now t in omega (arith, h.0, h.1, h.2, h.3))

pub returns-then-f-ge-REQUESTS : goal.returns-then-f-ge-REQUESTS
returns-then-f-ge-REQUESTS c =
    let a = c.args in
    write_passed a.f.now a.s a.table.now a.kept.now (λ t. let h = has_write_lem a.f.now a.s a.table.now a.kept.now t in omega (arith, h.0, h.1, h.2, h.3))

pub returns-then-q-ge-REQUESTS : goal.returns-then-q-ge-REQUESTS
returns-then-q-ge-REQUESTS c =
    let a = c.args in
    let i = get_or a.f.now 1 0 in
    let n : i < length a.s.channels = omega arith in
    let e = ap (λ (x : Channel). x.writes.n) (get_d_there a.s.channels i (channel_of free) nothing n) in
    write_passed a.f.now a.s a.table.now a.kept.now (λ t. let h = has_write_lem a.f.now a.s a.table.now a.kept.now t in omega (arith, h.3, e))

pub returns : goal.returns
unfolding write_of
returns c =
    let a = c.args in
    let h = c.requires in
    let d = c.if-f-ne9.false in
    let b = c.if-i-ge8.false in
    let g = c.if-f-ge-REQUESTS.false in
    let k = c.if-q-ge-REQUESTS.false in
    let i = get_or a.f.now 1 0 in
    let n : i < length a.s.channels = omega (arith, h.0, b) in
    let x = get_or a.s.channels i nothing in
    let at : get_or a.s.channels i (channel_of free) ≡ x = get_d_there a.s.channels i (channel_of free) nothing n in
    let e : i * 6 + 6 - i * 6 ≡ 6 = omega arith in
    write_took a.f.now a.s a.table.now a.kept.now x at _ _ (let z : length a.f.now ≡ 9 = omega (arith, d) in z) (let z : i < 8 = omega (arith, b) in z) (let z : get_or a.f.now 2 0 < 64 = omega (arith, g) in z)
    (let z : x.writes.n < 64 = omega (arith, k) in z) (c.with_writes.ensures ∙ ap (λ (q : Queue). with_writes q x) c.push.ensures)
    (c.put_all.ensures ∙ rw (at, c.numbers-b.ensures, e))
