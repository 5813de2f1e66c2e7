-- `answer` meets its contract: the part of the line that is lent has n bytes. Assumes nothing.
use mathlib.Core.Path.{sym}
use lib.Seq.{length-take-le}
use Rattle.taking.proofs.answer.Goals as goal

pub slice_bounds-feed_sound-end : goal.slice_bounds-feed_sound-end
slice_bounds-feed_sound-end c = sym (length-take-le _ _ c.requires.2)

pub feed_sound-requires : goal.feed_sound-requires
feed_sound-requires c = let p = c.requires in (p.0, p.1)

pub returns : goal.returns
returns c = c.feed_sound.ensures
