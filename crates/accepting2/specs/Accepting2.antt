-- Document 02, #112: which texts of the second form a board's loader accepts.
-- Assumes nothing.
--
--   Yes2 w t b tb'        the text was saved of the state of w channels that the board and the table hold
--   No2 w t               it was saved of no state of w channels
--   Finds2 w t f tb'      what was found: a board of which it was saved, or it was saved of none
--   Accepts2 w t f tb'    the promise of `accept2`: so it is, and where it was saved of none, the table is zeros
use Rattle.std.specs.Prelude.{◌≡◌, List, ℕ, replicate, Option, MatchOption}
use Rattle.machine_laws.specs.machine.State.{State}
use Rattle.board.specs.declared.Board.{Board}
use Rattle.board.specs.Board.{state_in, Held}
use Rattle.read_back2.specs.saved2.Saved2.{TextOf2}

pub record Yes2 (w : ℕ) (t : List ℕ) (b : Board) (tb' : List ℕ) : Type 0 where
  pub held : Held b tb'
  pub text : TextOf2 w (state_in b tb') t

abbrev pub No2 : ℕ → List ℕ → Type 0
No2 w t = (s : State) → TextOf2 w s t → ⊥

-- "a text that neither board's loader accepts, as when its numbers disagree with a count"
abbrev pub Finds2 : ℕ → List ℕ → Option Board → List ℕ → Type 0
Finds2 w t f tb' = MatchOption f (No2 w t) (λ b. Yes2 w t b tb')

abbrev pub Accepts2 : ℕ → List ℕ → Option Board → List ℕ → Type 0
Accepts2 w t f tb' = MatchOption f (No2 w t × (tb' ≡ replicate 1472 0)) (λ b. Yes2 w t b tb')
