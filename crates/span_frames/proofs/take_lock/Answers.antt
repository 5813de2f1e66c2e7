-- `take_lock` meets its contract: a frame that is no lock, or has no place, is passed over; any other puts its entry and its id. Assumes nothing.
use Rattle.sheet.proofs.Taking.{has_span_lem, lock-passed, lock-took}
use Rattle.span_frames.proofs.take_lock.Goals as goal

pub returns-in_default : goal.returns-in_default
returns-in_default c =
    let a = c.args in
    let n = c.in_default.ensures in
    rw n.1 (lock-passed a.f.now a.s a.table.now n.0)

pub returns : goal.returns
returns c =
    let a = c.args in
    let y = c.in-Some.ensures in
    let h = has_span_lem a.f.now a.s.locks y.0 in
    lock-took a.f.now a.s a.table.now _ _ h.0 h.1 h.2 y.1 y.2
