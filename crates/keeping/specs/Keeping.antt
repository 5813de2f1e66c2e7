-- What the log program keeps at its end, in the first form. Document 02, #106: "the channels 0 to 3".
-- Assumes nothing.
--
--   Kept b tb l n l'   the promise of `first_form`: the text of four channels, with every byte behind it as before; eight have none
use Rattle.std.specs.Prelude.{ℕ, ◌≡◌, List}
use Rattle.board.specs.declared.Board.{Board}
use Rattle.board.specs.Board.{state_in}
use Rattle.hex_lines.specs.HexLines.{Put}
use Rattle.saved.specs.Saved.{text}

pub record Kept (b : Board) (tb l : List ℕ) (n : ℕ) (l' : List ℕ) : Type 0 where
  pub four : b.width ≡ 4 → Put l 0 (text (state_in b tb)) n l'
  pub other : (b.width ≡ 4 → ⊥) → (n ≡ 0) × (l' ≡ l)
