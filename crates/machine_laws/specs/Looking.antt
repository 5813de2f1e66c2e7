-- Document 01, "Settling", one look at a time: settling in the middle of a walk. Laws: proofs/Looking.antt.
-- Assumes nothing.
--
--   fronted front w        the walk w, with requests in front that stay
--   resume front rest s    settling goes on: those in front were looked at and stay, the rest is still to be looked at
use Rattle.std.specs.Prelude.{List, ◌++◌}
use Rattle.machine.specs.State.{Request, State}
use Rattle.machine.specs.Settling.{Walk, Settled, walk, go_on, settle}

-- requests in front that stay
abbrev pub fronted : List Request → Walk → Walk
fronted front w = record { found = w.found; waiting = front ++ w.waiting; locks = w.locks; replies = w.replies }

-- the walk goes on at the rest; after a grant it starts again at the head
unfoldable pub resume : List Request → List Request → State → Settled
resume front rest s = let w = walk s.channels rest s.locks in go_on w.found (fronted front w) s settle
