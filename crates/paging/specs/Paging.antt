-- A lump of input, its output on a lent page: what `fill` promises.
-- Assumes nothing.
--
--   Fills   what `fill` leaves: the desk that `filled` of `taking` names
use Rattle.std.specs.Prelude.{ℕ, List}
use Rattle.image.specs.board.declared.Board.{Board}
use Rattle.one_line.specs.taking.declared.Show.{Show}
use Rattle.one_line.specs.taking.Desk.{Taken, desk_of, filled, Leaves}

pub record Fills (show : Show) (s : Board) (tb dp l : List ℕ) (n : ℕ) (bs page : List ℕ) (at : ℕ) (t : Taken) (l' tb' dp' page' : List ℕ) : Type 0 where
  pub leaves : Leaves t l' tb' dp' page' (filled show (desk_of s tb dp l n page at) bs)
