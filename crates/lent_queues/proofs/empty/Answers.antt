-- `empty` meets its contract: 65 zeros. Assumes nothing.
use Rattle.lent_queues.proofs.Moves.{put_empty}
use Rattle.lent_queues.proofs.empty.Goals as goal

pub returns : goal.returns
returns c =
    put_empty c.args.state.now c.args.at c.requires
    c.clear.ensures
