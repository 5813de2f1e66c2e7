-- Document 02, #106: "Loading accepts exactly such texts and gives back the state that was saved".
-- Assumes nothing.
--
--   opening              the bytes of the line D001, which every text opens with
--   Yes t b tb'          the text was saved of the state that the board and the table hold
--   No t                 it was saved of no state
--   Finds t f tb'        what was found: a board of which it was saved, or it was saved of none
--   Accepts t f tb'      the promise of `accept`: so it is, and where it was saved of no state, the table is zeros
use Rattle.std.specs.Prelude.{◌≡◌, List, ℕ, replicate, Option, MatchOption}
use Rattle.machine_laws.specs.machine.State.{State}
use Rattle.machine_laws.specs.machine.Log.{line}
use Rattle.board.specs.declared.Board.{Board}
use Rattle.board.specs.Board.{state_in, Held}
use Rattle.read_back.specs.saved.Saved.{FIRST, TextOf}

-- "and opens with the line D001"
abbrev pub opening : List ℕ
opening = line FIRST

pub record Yes (t : List ℕ) (b : Board) (tb' : List ℕ) : Type 0 where
  pub held : Held b tb'
  pub text : TextOf 4 (state_in b tb') t

abbrev pub No : List ℕ → Type 0
No t = (s : State) → TextOf 4 s t → ⊥

abbrev pub Finds : List ℕ → Option Board → List ℕ → Type 0
Finds t f tb' = MatchOption f (No t) (λ b. Yes t b tb')

abbrev pub Cleared : Option Board → List ℕ → List ℕ → Type 0
Cleared f tb tb' = MatchOption f (tb' ≡ replicate 1472 0) (λ _. tb' ≡ tb)

abbrev pub Accepts : List ℕ → Option Board → List ℕ → Type 0
Accepts t f tb' = MatchOption f (No t × (tb' ≡ replicate 1472 0)) (λ b. Yes t b tb')
