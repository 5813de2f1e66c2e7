-- `fresh` meets its contract: the fresh state beside the number. Assumes nothing.
use Rattle.board.proofs.Board.fresh.Goals as goal

pub returns : goal.returns
returns c = rw c.fresh-s.ensures
