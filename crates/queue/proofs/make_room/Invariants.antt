-- `make_room` meets its contract: each place takes what the one before it held. Assumes nothing.
use Rattle.std.proofs.Common.{◌≡◌, ◌∷◌, get_or}
use Rattle.queue.proofs.Laws.{opened}
use Rattle.queue.proofs.make_room.Given as goal

abbrev pub invariant-loop-place : goal.invariant-loop-place
invariant-loop-place g l =
    (l.place-items ≡ opened l.initial.place-items l.fn.x l.place-index)
    × (l.carried ≡ get_or (l.fn.x ∷ l.initial.place-items) l.place-index l.fn.x)
