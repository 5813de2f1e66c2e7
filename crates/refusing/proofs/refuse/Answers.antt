-- `refuse` meets its contract: a reply where one is due, else none. Assumes nothing.
use mathlib.Core.Path.{sym, ◌∙◌}
use Rattle.answers.proofs.Laws.{finished_of}
use Rattle.refusing.proofs.Laws.{due_late, due_refused, mute-refused}
use Rattle.refusing.proofs.refuse.Goals as goal

pub finished-requires : goal.finished-requires
finished-requires c = c.requires (due_late c.args.op c.args.e (sym c.due.ensures ∙ c.if-due.true))

pub returns-then-due : goal.returns-then-due
returns-then-due c = due_refused (sym c.due.ensures ∙ c.if-due.true) c.done-a.ensures (finished_of c.finished.ensures)

pub returns : goal.returns
returns c = mute-refused _ (sym c.due.ensures ∙ c.if-due.false) c.done-a.ensures
