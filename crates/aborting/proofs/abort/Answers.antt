-- `abort` meets its contract: the entry's command says whether there is something to cancel. Assumes nothing.
use mathlib.Core.Path.{sym, ◌∙◌}
use Rattle.answers.proofs.store.Store.{held_length}
use Rattle.aborting.proofs.Steps.{stay_told}
use Rattle.aborting.proofs.abort.Goals as goal

pub command-command-requires : goal.command-command-requires
command-command-requires c = let p = c.requires in (p.1, held_length p.0.held)

pub cancel-requires : goal.cancel-requires
cancel-requires c =
    let p = c.requires in
    (p.0, p.1, c.command-command.ensures, sym c.cancels.ensures ∙ c.if-cancels.true)

pub returns : goal.returns
returns c = stay_told c.requires.0.held c.args.r c.requires.1 c.command-command.ensures (sym c.cancels.ensures ∙ c.if-cancels.false) c.done-no.ensures
