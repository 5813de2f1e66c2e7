-- The promise of a call of a run, on any bytes.
-- Assumes nothing.
--
--   Turns o r ms st tb l dp d ..   where the bytes st hold a board: a turn that took it, as `code_runs` says; else unread, and nothing moved
use Rattle.std.specs.Prelude.{ℕ, List}
use Rattle.image.specs.Image.{state_of, Whole}
use Rattle.answers.specs.declared.Request.{Request}
use Rattle.code_runs.specs.refusals.declared.Op.{Op}
use Rattle.code_runs.specs.arbiter.declared.Answered.{Answered}
use Rattle.code_runs.specs.arbiter.Arbiter.{outcome_in, Shows, Unread}
use Rattle.code_runs.specs.CodeRuns.{Turn, Took}

-- the call as a turn of a run
abbrev pub turn_of : Op → Request → List ℕ → List ℕ → Answered → List ℕ → List ℕ → List ℕ → Turn
turn_of o r ms l d st' tb' l' = record
    { op = o; request = r; combos = ms; lent = l; outcome = outcome_in st' d; table = tb'; list = l' }

pub record Turns (o : Op) (r : Request) (ms st tb l dp : List ℕ) (d : Answered) (st' tb' l' dp' : List ℕ) : Type 0 where
  pub read : Whole st → Whole st' × Took (state_of st) tb (turn_of o r ms l d st' tb' l')
      × Shows o r (state_of st) ms tb l dp dp'
  pub unread : (Whole st → ⊥) → Unread r st tb l dp d st' tb' l' dp'
