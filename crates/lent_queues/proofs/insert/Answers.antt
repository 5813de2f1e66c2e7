-- `insert` meets its contract: what stands at place k and behind it moves, and the count is stored. Assumes nothing.
use mathlib.Core.Path.{ap, ◌∙◌}
use Prim.Native.Nat.{ℕ, ◌+◌}
use mathlib.Core.List.{List}
use lib.ListN.{get_or, set}
use Rattle.image.specs.Image.{queue_at}
use Rattle.lent_queues.specs.Moves.{spread}
use Rattle.lent_queues.proofs.Moves.{put_insert}
use Rattle.lent_queues.proofs.insert.Goals as goal

pub returns : goal.returns
unfolding queue_at
returns c =
    let l = c.args.state.now in
    let at = c.args.at in
    let k = c.args.k in
    let id = c.args.id in
    let n = get_or l at 0 in
    put_insert l at c.requires.0 k id c.requires.1 c.requires.2 c.requires.3 c.ranges.id.fits
    (ap (λ (x : List ℕ). set x at (n + 1)) (c.make_room.ensures
    ∙ ap (λ (x : ℕ). spread l (at + 1 + k) id (at + 1 + x)) c.from.ensures))

pub shape_of-state : goal.shape_of-state
shape_of-state c = (returns c).long
