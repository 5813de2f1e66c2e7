-- `cycle_ended` meets its contract: those who wait are answered, then what becomes of the write, on the state without them. Assumes
-- nothing.
use mathlib.Core.Path.{refl}
use Rattle.answers.specs.machine.State.{CYCLE_ENDED}
use Rattle.ending.proofs.play.Places.{some_at, none_at}
use Rattle.events.proofs.Places.{found, not_found}
use Rattle.events.proofs.Steps.{cycle_ready, cycle_led, told_quiet, told_cycle}
use Rattle.events.proofs.cycle_ended.Goals as goal

pub returns-in_default : goal.returns-in_default
returns-in_default c =
    let h = c.requires.held in
    told_quiet h c.args.r CYCLE_ENDED c.done-no.ensures (not_found h CYCLE_ENDED c.args.r _ refl (none_at _ c.in_default.ensures))

pub end_cycle-e-requires : goal.end_cycle-e-requires
end_cycle-e-requires c =
    let p = c.requires in
    let e = some_at _ _ c.in-Some.ensures in
    let f = found p.held _ _ e.0 e.1 in
    (cycle_ready p _ f.1 _ c.meet-m.ensures, e.1, cycle_led p _ f.1 _ c.meet-m.ensures)

pub returns : goal.returns
returns c =
    let p = c.requires in
    let e = some_at _ _ c.in-Some.ensures in
    let f = found p.held _ _ e.0 e.1 in
    told_cycle p.held c.args.r _ f.0 e.1 f.1 c.bit-b.ensures c.done-a.ensures p c.meet-m.ensures c.end_cycle-e.ensures
