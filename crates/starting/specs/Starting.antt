-- What is promised of a fresh device, for whatever memory is lent.
-- Assumes nothing.
--
--   Begun .. , NotBegun ..     a fresh device: 0, its state, a table of zeros, a blank display; another number of channels than 4 or
--                              8, or memory of another size: 1, and nothing moved
--   Fits w st tb dp            there is a board of w channels, and each memory has its size
--   Started w st tb dp r st' tb' dp'   the promise of `fresh` for w channels
use Rattle.std.specs.Prelude.{ℕ, ◌≡◌, List, T, length, replicate}
use Rattle.machine.specs.State.{fresh_on}
use Rattle.display.specs.Display.{DISPLAY, blank}
use Rattle.image.specs.board.Board.{sized, struct_of}
use Rattle.image.specs.Image.{STATE, Saved}
use Rattle.sizes.specs.Sizes.{TABLE}

pub record Begun (w : ℕ) (tb : List ℕ) (r : ℕ) (st' tb' dp' : List ℕ) : Type 0 where
  pub result : r ≡ 0
  pub state : Saved (struct_of (fresh_on w)) st'
  pub table : tb' ≡ replicate (length tb) 0
  -- #110: "on a fresh device they are 0"
  pub display : dp' ≡ blank

pub record NotBegun (st tb dp : List ℕ) (r : ℕ) (st' tb' dp' : List ℕ) : Type 0 where
  pub result : r ≡ 1
  pub state : st' ≡ st
  pub table : tb' ≡ tb
  pub display : dp' ≡ dp

pub record Fits (w : ℕ) (st tb dp : List ℕ) : Type 0 where
  pub board : T (sized w)
  pub state : length st ≡ STATE
  pub table : length tb ≡ TABLE
  pub display : length dp ≡ DISPLAY

pub record Started (w : ℕ) (st tb dp : List ℕ) (r : ℕ) (st' tb' dp' : List ℕ) : Type 0 where
  pub begun : Fits w st tb dp → Begun w tb r st' tb' dp'
  pub otherwise : (Fits w st tb dp → ⊥) → NotBegun st tb dp r st' tb' dp'
