-- `to_new` meets its contract: a text that is accepted is that of the board that was read, and the board's text of the second form is handed over. Assumes nothing.
use mathlib.Core.Path.{refl}
use Rattle.loading.proofs.saving.Laws.{page-within}
use Rattle.accepting2.proofs.saving2.Laws2.{text2_fits}
use Rattle.moving.proofs.Laws.{no_old_text, moved_new}
use Rattle.moving.proofs.to_new.Goals as goal

pub returns-in_default : goal.returns-in_default
returns-in_default c = let n = c.in_default.ensures in no_old_text n.0

pub spell2-n-requires : goal.spell2-n-requires
spell2-n-requires c = let y = c.in-Some.ensures in (y.held, refl)

pub hand_over-requires : goal.hand_over-requires
hand_over-requires c = let y = c.in-Some.ensures in page-within c.spell2-n.ensures (text2_fits y.held)

pub returns : goal.returns
returns c = moved_new (c.in-Some.ensures) c.spell2-n.ensures c.hand_over.ensures
