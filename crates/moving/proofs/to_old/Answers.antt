-- `to_old` meets its contract: a text names its board, so one that the eight-channel board takes is none of four; else the board that was read has the text of the first form. Assumes nothing.
use mathlib.Core.Path.{refl, sym, ◌∙◌}
use Rattle.loading.proofs.saving.Laws.{page-within}
use Rattle.board.proofs.Laws.{held_width}
use Rattle.loading.proofs.saving.Laws.{text_fits}
use Rattle.moving.proofs.Laws.{no_new_text, has_eight, no_eight, moved_old}
use Rattle.moving.proofs.to_old.Goals as goal

pub accept2-eight-requires : goal.accept2-eight-requires
accept2-eight-requires c = (tt, refl)

pub returns-then-is_some : goal.returns-then-is_some
returns-then-is_some c = has_eight c.accept2-eight.result _ c.accept2-eight.ensures (sym c.if-is_some.ensures)

pub accept2-requires : goal.accept2-requires
accept2-requires c = (tt, refl)

pub returns-in_default : goal.returns-in_default
returns-in_default c =
    let n = c.in_default.ensures in
    no_new_text n.0 (no_eight c.args.from.now c.accept2-eight.result _ c.accept2-eight.ensures (sym c.if-is_some.ensures))

pub spell-n-requires : goal.spell-n-requires
spell-n-requires c = let y = c.in-Some.ensures in (y.held, held_width y.held ∙ y.text.width, refl)

pub hand_over-requires : goal.hand_over-requires
hand_over-requires c = let y = c.in-Some.ensures in page-within c.spell-n.ensures (text_fits y.held (held_width y.held ∙ y.text.width))

pub returns : goal.returns
returns c = moved_old (c.in-Some.ensures) c.spell-n.ensures c.hand_over.ensures
