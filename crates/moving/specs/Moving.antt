-- Document 02, #112: what is promised of a saved text that is moved from one form to the other, for whatever bytes are lent.
-- Assumes nothing.
--
--   MovesNew t l e n l'    the promise of `to_new`: 9 comes before 12
--   MovesOld t l e n l'    the promise of `to_old`: 9 comes before 10, and 10 before 12
use Rattle.std.specs.Prelude.{ℕ, List}
use Rattle.machine.specs.State.{State}
use Rattle.loading.specs.saved.Saved.{text, TextOf}
use Rattle.loading.specs.saving.Saving.{EIGHT, Unwritten}
use Rattle.loading.specs.Loading.{BADTEXT}
use Rattle.accepting2.specs.saved2.Saved2.{text2, TextOf2}
use Rattle.accepting2.specs.saving2.Saving2.{Fills}

-- "Old texts move to the new form with four channels and the numbers counted."
pub record MovesNew (t l : List ℕ) (e n : ℕ) (l' : List ℕ) : Type 0 where
  pub refused : ((s : State) → TextOf 4 s t → ⊥) → Unwritten BADTEXT l e n l'
  pub moved : (s : State) → TextOf 4 s t → Fills (text2 s) l e n l'

-- "A new text with four channels moves back to the old text it came from, one with eight is refused with 10; a text that neither board's
-- loader accepts .. gets 9 first, short room 12 last, and nothing is written."
pub record MovesOld (t l : List ℕ) (e n : ℕ) (l' : List ℕ) : Type 0 where
  pub refused : ((s : State) → TextOf2 4 s t → ⊥) → ((s : State) → TextOf2 8 s t → ⊥) → Unwritten BADTEXT l e n l'
  pub eight : (s : State) → TextOf2 8 s t → Unwritten EIGHT l e n l'
  pub moved : (s : State) → TextOf2 4 s t → Fills (text s) l e n l'
