-- `waiting` meets its contract: the tests say which case of the promise is asked. Assumes nothing.
use mathlib.Core.Path.{sym, ◌∙◌}
use native.Mathlib.Omega.{arith}
use Rattle.sound.proofs.Laws.{yes_T}
use Rattle.waiting_list.proofs.Laws.{no_struct, no_state, a_state, not_sound, too_short, all_listed}
use Rattle.waiting_list.proofs.waiting.Goals as goal

pub returns-then-not-whole : goal.returns-then-not-whole
returns-then-not-whole c = not_sound (no_struct _ _ c.whole.ensures (c.if-not-whole.true))

pub load-b-requires : goal.load-b-requires
load-b-requires c = yes_T _ (sym c.whole.ensures ∙ c.if-not-whole.false)

pub returns-then-not-sound : goal.returns-then-not-sound
returns-then-not-sound c = not_sound (no_state _ _ c.load-b.ensures c.sound.ensures (c.if-not-sound.true))

pub returns-then-list-lt-RECORDS_SIZE : goal.returns-then-list-lt-RECORDS_SIZE
returns-then-list-lt-RECORDS_SIZE c = too_short ((a_state _ _ c.whole.ensures c.if-not-whole.false c.load-b.ensures c.sound.ensures c.if-not-sound.false)) (omega arith)

pub fill_front-n-requires : goal.fill_front-n-requires
fill_front-n-requires c = (c.sound.ensures.only (c.if-not-sound.false), omega arith)

pub returns : goal.returns
returns c = all_listed ((a_state _ _ c.whole.ensures c.if-not-whole.false c.load-b.ensures c.sound.ensures c.if-not-sound.false)) (omega arith) (rw c.load-b.ensures at c.fill_front-n.ensures)
