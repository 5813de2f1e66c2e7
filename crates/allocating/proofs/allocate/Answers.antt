-- `allocate` meets its contract: each look has its own function. Assumes nothing.
use mathlib.Core.Path.{sym, ◌∙◌}
use Rattle.answers.specs.store.Store.{state_in}
use Rattle.answers.specs.Answers.{call_of}
use Rattle.answers.proofs.Laws.{told_as}
use Rattle.allocating.proofs.Steps.{is_fails, is_held, is_grants, allocate_by, held_waits, gain_ready}
use Rattle.allocating.proofs.allocate.Goals as goal

pub gain-requires : goal.gain-requires
gain-requires c = (gain_ready c.requires.0 _ c.args.r.id c.requires.3 c.requires.4, c.requires.1)

pub returns-in-Fails : goal.returns-in-Fails
returns-in-Fails c =
    let a = c.args in
    told_as (allocate_by (call_of a.r a.combos.now) (state_in a.s a.table.now) _ (is_fails _ (sym c.in-Fails.is ∙ c.look_at-l.ensures _))) c.fail.ensures

pub returns-in-Held : goal.returns-in-Held
returns-in-Held c =
    let a = c.args in
    let u = state_in a.s a.table.now in
    told_as (allocate_by (call_of a.r a.combos.now) u _ (is_held _ _ (sym c.in-Held.is ∙ c.look_at-l.ensures _)) ∙ held_waits _ (call_of a.r a.combos.now) u) (c.wait.ensures a.replies.now)

pub returns-in-Grants : goal.returns-in-Grants
returns-in-Grants c =
    let a = c.args in
    told_as (allocate_by (call_of a.r a.combos.now) (state_in a.s a.table.now) _ (is_grants _ _ (sym c.in-Grants.is ∙ c.look_at-l.ensures _))) (c.gain.ensures a.combos.now)
