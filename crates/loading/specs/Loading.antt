-- Document 02, #106: what is promised of a text that is loaded, for whatever bytes are lent.
-- Assumes nothing.
--
--   BADTEXT                  9: no text that was saved
--   Fits st tb dp            each memory has its size
--   Unmoved c ..             the refusal c: "the state lent stays as it was", and so do the table and the display
--   Loaded s ..              0, and the state s, its table, and its display counted once
--   Loads w t st tb dp r ..  the promise of `load` for a board of w channels: 1 comes before 9
use Rattle.std.specs.Prelude.{ℕ, ◌≡◌, List, length}
use Rattle.machine.specs.Numbers.{UNSOUND}
use Rattle.machine.specs.State.{State}
use Rattle.display.specs.Display.{DISPLAY}
use Rattle.image.specs.store.Store.{table_of}
use Rattle.image.specs.board.Board.{struct_of}
use Rattle.image.specs.Image.{STATE, Saved}
use Rattle.accepting.specs.sizes.Sizes.{TABLE}
use Rattle.accepting.specs.saved.Saved.{TextOf}
use Rattle.recounting.specs.Recounting.{counted}

abbrev pub BADTEXT : ℕ
BADTEXT = 9

pub record Fits (st tb dp : List ℕ) : Type 0 where
  pub state : length st ≡ STATE
  pub table : length tb ≡ TABLE
  pub display : length dp ≡ DISPLAY

pub record Unmoved (c : ℕ) (st tb dp : List ℕ) (r : ℕ) (st' tb' dp' : List ℕ) : Type 0 where
  pub result : r ≡ c
  pub state : st' ≡ st
  pub table : tb' ≡ tb
  pub display : dp' ≡ dp

pub record Loaded (s : State) (r : ℕ) (st' tb' dp' : List ℕ) : Type 0 where
  pub result : r ≡ 0
  pub state : Saved (struct_of s) st'
  pub table : tb' ≡ table_of s
  -- #110: "Loading a saved state recounts once and sets the looks to 0."
  pub display : dp' ≡ counted s

-- "Loading accepts exactly such texts and gives back the state that was saved; anything else is refused with 9, and the state lent stays
-- as it was." The first form is the four-channel board's alone.
pub record Loads (w : ℕ) (t st tb dp : List ℕ) (r : ℕ) (st' tb' dp' : List ℕ) : Type 0 where
  pub misfit : (Fits st tb dp → ⊥) → Unmoved UNSOUND st tb dp r st' tb' dp'
  pub another : Fits st tb dp → (w ≡ 4 → ⊥) → Unmoved BADTEXT st tb dp r st' tb' dp'
  pub refused : Fits st tb dp → ((s : State) → TextOf 4 s t → ⊥) → Unmoved BADTEXT st tb dp r st' tb' dp'
  pub loaded : Fits st tb dp → w ≡ 4 → (s : State) → TextOf 4 s t → Loaded s r st' tb' dp'
