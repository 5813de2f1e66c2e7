-- That no second outcome fits a call on any bytes: what is the same then. Laws: `one_lent` of proofs/Lent.antt.
-- Assumes nothing.
--
--   Same d d₂ st st₂ ..    the same answer and count, and the same bytes in all that is lent
use Rattle.std.specs.Prelude.{ℕ, ◌≡◌, List}
use Rattle.arbiter.specs.declared.Answered.{Answered}

pub record Same (d d₂ : Answered) (st st₂ tb tb₂ l l₂ dp dp₂ : List ℕ) : Type 0 where
  pub answered : d ≡ d₂
  pub state : st ≡ st₂
  pub table : tb ≡ tb₂
  pub list : l ≡ l₂
  pub display : dp ≡ dp₂
