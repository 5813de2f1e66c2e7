-- `save2` meets its contract: the tests say which case of the promise is asked, and the text is the board's own. Assumes nothing.
use mathlib.Core.Path.{refl, sym, ◌∙◌}
use Rattle.accepting.proofs.sound.Laws.{yes_T}
use Rattle.accepting.proofs.Accepting.{false_true}
use Rattle.accepting.proofs.waiting_list.Laws.{no_struct, no_state, a_state}
use Rattle.accepting.proofs.saving.Laws.{page-within}
use Rattle.saving2.proofs.Laws2.{text2_fits, not_sound, disagrees, saved-text}
use Rattle.saving2.proofs.save2.Goals as goal

pub returns-then-not-whole : goal.returns-then-not-whole
returns-then-not-whole c = not_sound (no_struct _ _ c.whole.ensures (c.if-not-whole.true))

pub load-b-requires : goal.load-b-requires
load-b-requires c = yes_T _ (sym c.whole.ensures ∙ c.if-not-whole.false)

pub returns-then-not-sound : goal.returns-then-not-sound
returns-then-not-sound c = not_sound (no_state _ _ c.load-b.ensures c.sound.ensures (c.if-not-sound.true))

pub agrees-requires : goal.agrees-requires
agrees-requires c = c.sound.ensures.only (c.if-not-sound.false)

pub returns-then-not-agrees : goal.returns-then-not-agrees
returns-then-not-agrees c = disagrees ((a_state _ _ c.whole.ensures c.if-not-whole.false c.load-b.ensures c.sound.ensures c.if-not-sound.false)) (λ g. false_true (sym (c.if-not-agrees.true) ∙ c.agrees.ensures.always (rw c.load-b.ensures g)))

pub spell2-n-requires : goal.spell2-n-requires
spell2-n-requires c = (c.sound.ensures.only (c.if-not-sound.false), refl)

pub hand_over-requires : goal.hand_over-requires
hand_over-requires c = page-within c.spell2-n.ensures (text2_fits (c.sound.ensures.only (c.if-not-sound.false)))

pub returns : goal.returns
returns c = saved-text ((a_state _ _ c.whole.ensures c.if-not-whole.false c.load-b.ensures c.sound.ensures c.if-not-sound.false)) c.load-b.ensures (c.agrees.ensures.only (c.if-not-agrees.false)) c.spell2-n.ensures c.hand_over.ensures
