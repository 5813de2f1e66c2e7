-- What the log program begins with.
-- Assumes nothing.
--
--   Loaded f tb dp     what was loaded is what some text of the first form holds
--   Loaded2 w f tb dp  or one of the second, of w channels
--   Begins load second w f tb dp   the promise of `begin`: a fresh board with w channels, or what was loaded
use Rattle.std.specs.Prelude.{ℕ, ◌≡◌, Bool, true, false, List, length, replicate, Option, Some, MatchOption, ⊤}
use Rattle.display.specs.Display.{blank}
use Rattle.carrying.specs.board.declared.Board.{Board}
use Rattle.carrying.specs.board.Board.{fresh_board, Held}
use Rattle.carrying.specs.Carrying.{Resumes, Resumes2}

pub record Loaded (f : Option Board) (tb dp : List ℕ) : Type 0 where
  pub text : List ℕ
  pub resumes : Resumes text blank f tb dp

pub record Loaded2 (w : ℕ) (f : Option Board) (tb dp : List ℕ) : Type 0 where
  pub text : List ℕ
  pub resumes : Resumes2 w text blank f tb dp

pub record Begins (load second : Bool) (w : ℕ) (f : Option Board) (tb dp : List ℕ) : Type 0 where
  pub fresh : load ≡ false → (f ≡ Some (fresh_board w)) × (tb ≡ replicate 1472 0) × (dp ≡ blank)
  pub loaded : load ≡ true → second ≡ false → Loaded f tb dp
  pub loaded2 : load ≡ true → second ≡ true → Loaded2 w f tb dp
  pub held : MatchOption f ⊤ (λ b. Held b tb)
  pub shown : length dp ≡ 18
