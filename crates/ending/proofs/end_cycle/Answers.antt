-- `end_cycle` meets its contract: the front write's turn is read from its entry, and each turn is the machine's. Assumes nothing.
use mathlib.Core.Path.{refl, ◌∙◌}
use Rattle.tuning.proofs.store.Store.{held_length}
use Rattle.ending.proofs.Steps.{first_small, first_count, first_turn, cycle_cut, cycle_over, cycle_on}
use Rattle.ending.proofs.end_cycle.Goals as goal

pub turn_at-t-requires : goal.turn_at-t-requires
turn_at-t-requires c =
    let p = c.requires in
    let h = p.0.held in
    (first_small h c.args.i p.1 p.2 _ c.at.ensures, held_length h, first_count h c.args.i p.1 p.2 _ c.at.ensures)

pub returns-in-Cut : goal.returns-in-Cut
returns-in-Cut c =
    let p = c.requires in
    let i = c.args.i in
    let t = first_turn p.0.held i p.1 p.2 _ c.at.ensures c.turn_at-t.ensures in
    cycle_cut p.0.held i p.1 p.2 (t ∙ c.in-Cut.is) c.end_write.ensures

pub returns-in-Over : goal.returns-in-Over
returns-in-Over c =
    let p = c.requires in
    let i = c.args.i in
    let t = first_turn p.0.held i p.1 p.2 _ c.at.ensures c.turn_at-t.ensures in
    cycle_over p.0.held i p.1 p.2 (t ∙ c.in-Over.is) c.bit-b.ensures c.end_write-in-Over.ensures

pub returns-in-On : goal.returns-in-On
returns-in-On c =
    let p = c.requires in
    let i = c.args.i in
    let t = first_turn p.0.held i p.1 p.2 _ c.at.ensures c.turn_at-t.ensures in
    cycle_on p.0.held i p.1 p.2 (t ∙ c.in-On.is) c.bit-b.ensures refl c.tune_fronts.ensures
