-- A line's output on a lent page: what `put` promises.
-- Assumes nothing.
--
--   Adds page at xs r page'   the bytes xs stand behind the first `at` bytes of the page, every other byte is as before, and r bytes
--                          then stand
--   text_of show t tb dp out   a line's output as a call of `take` left it in `out`, then what is shown of the board, the table tb and the
--                          display dp; nothing where no line was answered
--   Puts show t tb dp out page at r page'   that text is added to the page, and r counts it
use Rattle.std.specs.Prelude.{ℕ, ◌+◌, ◌≡◌, List, [], ◌++◌, eqb, length, take, if◌then◌else◌}
use Rattle.memory.specs.Splice.{splice}
use Rattle.image.specs.board.Board.{state_in}
use Rattle.taking.specs.declared.Show.{Show}
use Rattle.taking.specs.Desk.{Taken, shown_of}

pub record Adds (page : List ℕ) (at : ℕ) (xs : List ℕ) (r : ℕ) (page' : List ℕ) : Type 0 where
  pub count : r ≡ at + length xs
  pub bytes : page' ≡ splice page at xs

unfoldable pub text_of : Show → Taken → List ℕ → List ℕ → List ℕ → List ℕ
text_of show t tb dp out = if eqb t.at 0 then [] else take t.at out ++ shown_of show (state_in t.state tb) dp

pub record Puts (show : Show) (t : Taken) (tb dp out page : List ℕ) (at : ℕ) (r : Taken) (page' : List ℕ) : Type 0 where
  pub answer : r ≡ record { state = t.state; line = t.line; used = t.used; at = at + length (text_of show t tb dp out) }
  pub bytes : page' ≡ splice page at (text_of show t tb dp out)
