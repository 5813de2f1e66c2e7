-- `open` meets its contract: a look that does not grant changes nothing. Assumes nothing.
use mathlib.Core.Path.{sym, ap, ◌∙◌}
use Rattle.allocating.specs.choosing.Choosing.{look_of}
use Rattle.answers.specs.store.Store.{state_in}
use Rattle.answers.specs.Answers.{call_of}
use Rattle.answers.proofs.Laws.{told_as}
use Rattle.allocating.proofs.Steps.{is_grants, open_by, open_shut, grant-ready}
use Rattle.opening.proofs.open.Goals as goal

pub returns-in_default : goal.returns-in_default
returns-in_default c =
    let a = c.args in
    open_shut a.r a.combos.now c.requires.0.held c.done-no.ensures (λ m e. c.in_default.not-Grants m (c.look_at-l.ensures _ ∙ ap look_of e))

pub enter-requires : goal.enter-requires
enter-requires c = (grant-ready c.requires.0 _, c.requires.1)

pub returns : goal.returns
returns c =
    let a = c.args in
    told_as (open_by (call_of a.r a.combos.now) (state_in a.s a.table.now) _ (is_grants _ _ (sym c.in-Grants.is ∙ c.look_at-l.ensures _))) (c.enter.ensures a.combos.now)
