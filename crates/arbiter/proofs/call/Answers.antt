-- `call` meets its contract: the test of the bytes decides whether they are read, and that of the board which half of the promise is
-- asked. Assumes nothing.
use mathlib.Core.Path.{refl, sym, ◌∙◌}
use Rattle.sound.proofs.Laws.{yes_T}
use Rattle.image.proofs.Laws.{whole_long}
use Rattle.arbiter.proofs.Own.{unsound-called, sound-called, unsound-shows, sound-shows}
use Rattle.arbiter.proofs.Lent.{handled_lent, lent-unread, lent_read}
use mathlib.Core.Bool.{not}
use mathlib.Core.Path.{ap}
use Rattle.arbiter.proofs.call.Goals as goal

pub returns-then-not-whole : goal.returns-then-not-whole
returns-then-not-whole c =
    lent-unread c.whole.ensures (c.if-not-whole.true) record
    { answer = c.done-unread.ensures; count = refl; state = refl; table = refl; list = refl; display = refl }

pub load-b-requires : goal.load-b-requires
load-b-requires c = (yes_T _ (sym c.whole.ensures ∙ c.if-not-whole.false))

pub returns-then-not-sound : goal.returns-then-not-sound
returns-then-not-sound c =
    let w = (yes_T _ (sym c.whole.ensures ∙ c.if-not-whole.false)) in
    let s = rw c.load-b.ensures at c.sound.ensures in
    lent_read w (
      w,
      unsound-called s (c.if-not-sound.true) record
          { answer = c.done-a.ensures; state = refl; count = refl; table = refl; list = refl },
      unsound-shows s (c.if-not-sound.true) refl,
    )

pub on_board-d-requires : goal.on_board-d-requires
on_board-d-requires c = c.sound.ensures.only (c.if-not-sound.false)

pub save-requires : goal.save-requires
save-requires c = whole_long _ ((yes_T _ (sym c.whole.ensures ∙ c.if-not-whole.false)))

pub returns : goal.returns
returns c =
    let v = c.save.ensures in
    let b = c.load-b.ensures in
    let q = rw b at (c.sound.ensures.only (c.if-not-sound.false)) in
    let d = rw b at c.on_board-d.ensures in
    lent_read ((yes_T _ (sym c.whole.ensures ∙ c.if-not-whole.false)))
    (v.whole, sound-called q (handled_lent v d.0).told, sound-shows q d.1)
