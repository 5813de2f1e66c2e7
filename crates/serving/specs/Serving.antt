-- One line of a log on a sound state: what is promised of it.
-- Assumes nothing.
--
--   Feeds s tb l out f tb' out'     the promise on a sound state: the machine's `feed`, to the last byte; and the state is sound again
--   FeedsDisplay s tb l dp dp'      that of the display: dp became dp', as the line's call says; a line that is no frame leaves it
--   Same f f₂ tb tb₂ out out₂       the same state, table and output
use Rattle.std.specs.Prelude.{ℕ, ◌≡◌, List, length}
use Rattle.answers.specs.machine.Log.{unhex, frame, feed}
use Rattle.display.specs.Display.{displayed_by}
use Rattle.memory.specs.Splice.{splice}
use Rattle.image.specs.board.declared.Board.{Board}
use Rattle.answers.specs.store.Store.{table_of}
use Rattle.image.specs.board.Board.{struct_of, state_in, Held}
use Rattle.unheard.specs.Unheard.{Fed}

pub record Feeds (s : Board) (tb l out : List ℕ) (f : Fed) (tb' out' : List ℕ) : Type 0 where
  pub struct : f.state ≡ struct_of (feed (state_in s tb) l).next
  pub table : tb' ≡ table_of (feed (state_in s tb) l).next
  pub count : f.n ≡ length (feed (state_in s tb) l).output
  pub bytes : out' ≡ splice out 0 (feed (state_in s tb) l).output
  pub kept : Held f.state tb'
  pub next : state_in f.state tb' ≡ (feed (state_in s tb) l).next

-- #110: "corrected at each call and never recounted"
abbrev pub FeedsDisplay : Board → List ℕ → List ℕ → List ℕ → List ℕ → Type 0
FeedsDisplay s tb l dp dp' = dp' ≡ displayed_by (state_in s tb) (frame (unhex l)) dp

-- no second outcome fits the promise: `one_sound_feeding` of proofs/Laws.antt
pub record Same (f f₂ : Fed) (tb tb₂ out out₂ : List ℕ) : Type 0 where
  pub fed : f ≡ f₂
  pub table : tb ≡ tb₂
  pub output : out ≡ out₂
