-- Document 02, #112: what is promised of a text of the second form that is loaded, for whatever bytes are lent.
-- Assumes nothing.
--
--   Loads2 w t st tb dp r ..  the promise of `load2` for a board of w channels: 1 comes before 9
use Rattle.std.specs.Prelude.{ℕ, List, T}
use Rattle.machine_laws.specs.machine.Numbers.{UNSOUND}
use Rattle.machine_laws.specs.machine.State.{State}
use Rattle.image.specs.board.Board.{sized}
use Rattle.loading.specs.Loading.{BADTEXT, Fits, Unmoved, Loaded}
use Rattle.accepting2.specs.saved2.Saved2.{TextOf2}

-- "The saved text needs the number of channels": each board's loader accepts its own texts alone, "The new loader refuses D001 with 9"
pub record Loads2 (w : ℕ) (t st tb dp : List ℕ) (r : ℕ) (st' tb' dp' : List ℕ) : Type 0 where
  pub misfit : (Fits st tb dp → ⊥) → Unmoved UNSOUND st tb dp r st' tb' dp'
  pub another : Fits st tb dp → (T (sized w) → ⊥) → Unmoved BADTEXT st tb dp r st' tb' dp'
  pub refused : Fits st tb dp → ((s : State) → TextOf2 w s t → ⊥) → Unmoved BADTEXT st tb dp r st' tb' dp'
  pub loaded : Fits st tb dp → T (sized w) → (s : State) → TextOf2 w s t → Loaded s r st' tb' dp'
