-- `push` meets its contract: two stores, of the id and of the count. Assumes nothing.
use mathlib.Core.Path.{ap}
use native.Mathlib.Omega.{arith}
use Prim.Native.Nat.{ℕ, ◌+◌}
use lib.ListN.{get_or, set, length-set}
use Rattle.image.specs.Image.{queue_at}
use Rattle.lent_queues.proofs.Moves.{put_push}
use Rattle.lent_queues.proofs.push.Goals as goal

pub bounds-state-at-2 : goal.bounds-state-at-2
bounds-state-at-2 c = simp length-set (omega arith)

pub returns : goal.returns
unfolding queue_at
returns c =
    let l = c.args.state.now in
    let at = c.args.at in
    let id = c.args.id in
    put_push l at c.requires.0 id c.requires.1 c.ranges.id.fits
    (ap (λ (x : ℕ). set (set l (at + 1 + x) id) at (get_or l at 0 + 1)) c.from.ensures)
