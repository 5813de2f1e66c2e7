-- One line at most, its output on a lent page: what `turn` promises.
-- Assumes nothing.
--
--   Turns   what `turn` leaves: the desk that `taken` of `taking` names
use Rattle.std.specs.Prelude.{ℕ, List}
use Rattle.image.specs.board.declared.Board.{Board}
use Rattle.putting.specs.taking.declared.Show.{Show}
use Rattle.putting.specs.taking.Desk.{Taken, desk_of, taken, Leaves}

pub record Turns (show : Show) (s : Board) (tb dp l : List ℕ) (n : ℕ) (bs page : List ℕ) (at : ℕ) (t : Taken) (l' tb' dp' page' : List ℕ) : Type 0 where
  pub leaves : Leaves t l' tb' dp' page' (taken show (desk_of s tb dp l n page at) bs)
