-- The last line of a log, its output on a lent page: what `finish` promises.
-- Assumes nothing.
--
--   Finishes   what `finish` leaves: the desk that `finished` of `taking` names
use Rattle.std.specs.Prelude.{ℕ, List}
use Rattle.image.specs.board.declared.Board.{Board}
use Rattle.one_line.specs.taking.declared.Show.{Show}
use Rattle.one_line.specs.taking.Desk.{Taken, desk_of, finished, Leaves}

pub record Finishes (show : Show) (s : Board) (tb dp l : List ℕ) (n : ℕ) (page : List ℕ) (at : ℕ) (t : Taken) (tb' dp' page' : List ℕ) : Type 0 where
  pub leaves : Leaves t l tb' dp' page' (finished show (desk_of s tb dp l n page at))
