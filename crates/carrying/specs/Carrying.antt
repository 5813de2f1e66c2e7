-- Document 02, #106: "save the whole state and load it elsewhere", and #112, the second form. A log that goes on from a saved text.
-- Assumes nothing.
--
--   Counts f dp tb' dp'       where a text is accepted, the display is counted; where it is not, it stays
--   Resumes t dp f tb' dp'    the promise of `resume`: the text is accepted or not, as `accept` says; the display counted, or as it was
--   Resumes2 w t dp f tb' dp' the promise of `resume2`: the same of a text of the second form, of w channels, as `accept2` says
--   Carries s f tb dp         what is held is the state s, with its display counted: so it is where a text of s, of either form, was
--                             resumed
use Rattle.std.specs.Prelude.{◌≡◌, List, ℕ, Option, Some, MatchOption}
use Rattle.machine.specs.State.{State}
use Rattle.board.specs.declared.Board.{Board}
use Rattle.board.specs.Board.{state_in, Held}
use Rattle.accepting2.specs.accepting.Accepting.{Accepts}
use Rattle.accepting2.specs.Accepting2.{Accepts2}
use Rattle.accepting2.specs.recounting.Recounting.{counted}

-- #110: "Loading a saved state recounts once and sets the looks to 0."
abbrev pub Counts : Option Board → List ℕ → List ℕ → List ℕ → Type 0
Counts f dp tb' dp' = MatchOption f (dp' ≡ dp) (λ b. dp' ≡ counted (state_in b tb'))

pub record Resumes (t dp : List ℕ) (f : Option Board) (tb' dp' : List ℕ) : Type 0 where
  pub accepts : Accepts t f tb'
  pub counts : Counts f dp tb' dp'

pub record Resumes2 (w : ℕ) (t dp : List ℕ) (f : Option Board) (tb' dp' : List ℕ) : Type 0 where
  pub accepts : Accepts2 w t f tb'
  pub counts : Counts f dp tb' dp'

pub record Carries (s : State) (f : Option Board) (tb dp : List ℕ) : Type 0 where
  pub board : Board
  pub accepted : f ≡ Some board
  pub held : Held board tb
  pub state : state_in board tb ≡ s
  pub display : dp ≡ counted s
