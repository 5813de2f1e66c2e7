-- `finish` meets its contract: SYNCCYCLE says whether the end is remembered. Assumes nothing.
use mathlib.Core.Path.{refl, sym, ◌∙◌}
use mathlib.Core.Logic.{inl}
use Rattle.answers.proofs.Laws.{told_as}
use Rattle.changing.proofs.Laws.{ready_one}
use Rattle.sounding.proofs.Laws.{finish-now, finish-later, ready-finish}
use Rattle.sounding.proofs.finish.Goals as goal

pub tune_each-requires : goal.tune_each-requires
tune_each-requires c = (ready_one c.requires.0, c.requires.0.map, inl refl)

pub returns-then-is_synced : goal.returns-then-is_synced
returns-then-is_synced c = told_as (finish-later c.args.r _ c.requires.1 (sym c.is_synced.ensures ∙ c.if-is_synced.true)) c.tune_each.ensures

pub finish-requires : goal.finish-requires
finish-requires c = (ready-finish c.requires.0, c.requires.0.map, c.requires.1, sym c.is_synced.ensures ∙ c.if-is_synced.false)

pub returns : goal.returns
returns c = told_as (finish-now c.args.r _ c.requires.1) c.finish.ensures
