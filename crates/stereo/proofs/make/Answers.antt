-- `make` meets its contract: the refusals in their order, and then what `fill` writes.
-- Assumes nothing.
use Rattle.stereo.proofs.Turns.{left_refused, right-refused, room_refused, made_whole}
use borrow.Author.Rules.{rules}
use Rattle.stereo.proofs.make.Goals as goal

pub returns-then-left-gt2 : goal.returns-then-left-gt2
returns-then-left-gt2 c = left_refused _ _ _ (search rules)

pub returns-then-right-gt2 : goal.returns-then-right-gt2
returns-then-right-gt2 c = right-refused _ _ _ (search rules) (search rules)

pub returns-then-maps-lt-STEREO_ROOM : goal.returns-then-maps-lt-STEREO_ROOM
returns-then-maps-lt-STEREO_ROOM c = room_refused _ _ _ (search rules) (search rules) (search rules)

pub returns : goal.returns
returns c = made_whole _ _ _ (search rules) (search rules) (search rules) _ _ c.fill-n.ensures.0 c.fill-n.ensures.1
