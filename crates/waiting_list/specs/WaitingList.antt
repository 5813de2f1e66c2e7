-- Document 02, #110: "The display also lends a list of records, one for each waiting request": what is promised of it, for whatever bytes
-- are lent.
-- Assumes nothing.
--
--   Sound st tb              the bytes hold a sound state
--   Unlisted c l e n l'      the refusal c: no record, and nothing written
--   Full st tb l e n l'      0, and the records of all that wait
--   Tells st tb l e n l'     the promise of `waiting`: 1 comes before 5
use Rattle.std.specs.Prelude.{ℕ, ◌≤◌, ◌<◌, ◌≡◌, List, length}
use Rattle.machine.specs.Numbers.{UNSOUND, NOROOM}
use Rattle.image.specs.board.Board.{Held}
use Rattle.image.specs.Image.{state_of, Whole}
use Rattle.sizes.specs.Sizes.{RECORDS}
use Rattle.records.specs.Records.{Lists}

abbrev pub Sound : List ℕ → List ℕ → Type 0
Sound st tb = Whole st × Held (state_of st) tb

pub record Unlisted (c : ℕ) (l : List ℕ) (e n : ℕ) (l' : List ℕ) : Type 0 where
  pub error : e ≡ c
  pub count : n ≡ 0
  pub list : l' ≡ l

pub record Full (st tb l : List ℕ) (e n : ℕ) (l' : List ℕ) : Type 0 where
  pub error : e ≡ 0
  pub lists : Lists (state_of st) tb l n l'

-- "a list shorter than 64 gets 5 and is not written"
pub record Tells (st tb l : List ℕ) (e n : ℕ) (l' : List ℕ) : Type 0 where
  pub unsound : (Sound st tb → ⊥) → Unlisted UNSOUND l e n l'
  pub short : Sound st tb → length l < RECORDS → Unlisted NOROOM l e n l'
  pub full : Sound st tb → RECORDS ≤ length l → Full st tb l e n l'
