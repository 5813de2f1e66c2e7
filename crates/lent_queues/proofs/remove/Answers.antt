-- `remove` meets its contract: what stands behind place k moves, and the count is stored. Assumes nothing.
use mathlib.Core.Path.{ap, ◌∙◌}
use Prim.Native.Nat.{ℕ, ◌+◌, ◌-◌}
use mathlib.Core.List.{List}
use lib.ListN.{get_or, set}
use Rattle.image.specs.Image.{queue_at}
use Rattle.lent_queues.specs.Moves.{shut}
use Rattle.lent_queues.proofs.Moves.{put_remove}
use Rattle.lent_queues.proofs.remove.Goals as goal

pub returns : goal.returns
unfolding queue_at
returns c =
    let l = c.args.state.now in
    let at = c.args.at in
    let k = c.args.k in
    let n = get_or l at 0 in
    put_remove l at c.requires.0 k c.requires.1 c.requires.2 c.requires.3
    (ap (λ (x : List ℕ). set x at (n - 1)) (c.close_up.ensures
    ∙ ap (λ (x : ℕ). shut l (at + 1 + k) (at + 1 + x)) c.from.ensures))

pub shape_of-state : goal.shape_of-state
shape_of-state c = (returns c).long
