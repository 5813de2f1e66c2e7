-- `gave_up` meets its contract: the front write of the channel is cut, as FINISH cuts one. Assumes nothing.
use mathlib.Core.Path.{refl}
use Rattle.answers.specs.machine.State.{GAVE_UP}
use Rattle.ending.proofs.play.Places.{some_at, none_at}
use Rattle.events.proofs.Places.{found, not_found}
use Rattle.events.proofs.Steps.{up_ready, told_quiet, told_up}
use Rattle.events.proofs.gave_up.Goals as goal

pub returns-in_default : goal.returns-in_default
returns-in_default c =
    let h = c.requires.held in
    told_quiet h c.args.r GAVE_UP c.done-no.ensures (not_found h GAVE_UP c.args.r _ refl (none_at _ c.in_default.ensures))

pub cut_fronts-d-requires : goal.cut_fronts-d-requires
cut_fronts-d-requires c = up_ready _ c.requires

pub returns : goal.returns
returns c =
    let h = c.requires.held in
    let e = some_at _ _ c.in-Some.ensures in
    let f = found h _ _ e.0 e.1 in
    told_up h c.args.r _ f.0 e.1 f.1 c.bit-b.ensures c.done-a.ensures c.cut_fronts-d.ensures
