-- `pervol` meets its contract: SYNCCYCLE says whether period and volume are remembered. Assumes nothing.
use mathlib.Core.Path.{sym, ◌∙◌}
use Rattle.answers.proofs.Laws.{told_as}
use Rattle.changing.proofs.Laws.{ready_one}
use Rattle.sounding.proofs.Laws.{pervol-now, pervol-later}
use Rattle.sounding.proofs.pervol.Goals as goal

pub tune_each-requires : goal.tune_each-requires
tune_each-requires c = (ready_one c.requires.0, c.requires.0.map, c.requires.2)

pub returns-then-is_synced : goal.returns-then-is_synced
returns-then-is_synced c = told_as (pervol-later c.args.r _ _ c.requires.1 (sym c.is_synced.ensures ∙ c.if-is_synced.true)) c.tune_each.ensures

pub tune_each-requires-2 : goal.tune_each-requires-2
tune_each-requires-2 c = (ready_one c.requires.0, c.requires.0.map, c.requires.2)

pub returns : goal.returns
returns c = told_as (pervol-now c.args.r _ _ c.requires.1 (sym c.is_synced.ensures ∙ c.if-is_synced.false)) c.tune_each-2.ensures
