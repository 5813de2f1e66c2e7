-- `feed` meets its contract: the test of the bytes decides whether they are read, and that of the state which half of the promise is
-- asked. Assumes nothing.
use mathlib.Core.Path.{sym, ◌∙◌}
use Rattle.serving.proofs.sound.Laws.{yes_T}
use Rattle.image.specs.Image.{state_of}
use Rattle.feeding.proofs.Laws.{sound-feeds, unsound-feeds, sound-display, unsound-display, read_feeds, unread-feeds}
use Rattle.feeding.proofs.feed.Goals as goal

pub returns-then-not-whole : goal.returns-then-not-whole
returns-then-not-whole c =
    unread-feeds c.whole.ensures c.if-not-whole.true
    (c.unsound.ensures (state_of c.args.state.now))

pub load-b-requires : goal.load-b-requires
load-b-requires c = (yes_T _ (sym c.whole.ensures ∙ c.if-not-whole.false))

pub feed_sound-requires : goal.feed_sound-requires
feed_sound-requires c =
    let h = rw c.load-b.ensures at (c.sound.ensures.only c.if-sound.true) in
    ((yes_T _ (sym c.whole.ensures ∙ c.if-not-whole.false)), h)

pub returns-then-sound : goal.returns-then-sound
returns-then-sound c =
    let h = rw c.load-b.ensures at (c.sound.ensures.only c.if-sound.true) in
    let e = c.feed_sound.ensures in
    read_feeds ((yes_T _ (sym c.whole.ensures ∙ c.if-not-whole.false))) (e.0, sound-feeds h e.1, sound-display _ _ h e.2)

pub returns : goal.returns
returns c =
    let w = (yes_T _ (sym c.whole.ensures ∙ c.if-not-whole.false)) in
    let d = rw c.load-b.ensures at c.sound.ensures in
    read_feeds w (
      w,
      unsound-feeds d c.if-sound.false (c.unsound-2.ensures
          (state_of c.args.state.now)),
      unsound-display _ _ d c.if-sound.false,
    )
