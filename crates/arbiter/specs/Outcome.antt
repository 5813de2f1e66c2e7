-- That no second outcome fits a call on a board: what is the same then. Laws: `one_outcome` of proofs/Outcome.antt.
-- Assumes nothing.
--
--   Same d d₂ tb tb₂ l l₂    the same answer, board, count, table and list
use Rattle.std.specs.Prelude.{ℕ, ◌≡◌, List}
use Rattle.image.specs.board.declared.Outcome.{Outcome}

pub record Same (d d₂ : Outcome) (tb tb₂ l l₂ : List ℕ) : Type 0 where
  pub outcome : d ≡ d₂
  pub table : tb ≡ tb₂
  pub list : l ≡ l₂
