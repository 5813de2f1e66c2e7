-- A whole log, taken by calls of `fill` and `finish` in any way.
-- Assumes nothing.
--
--   joined bss                   the bytes of lumps, one behind the other
--   Ran show s tb dp l n page at bss out   from the struct s, the table tb and the display dp, with n bytes of a line standing in l and
--                                `at` bytes on the page, the lumps bss come to the output out. Of the code only its promises are used:
--                                `Fills` of `fill`, `Finishes` of `finish`.
--     fills                      a call takes the next lump, or a part of it: what it does not use is next
--     used_up                    a lump is used up, or had no bytes
--     finishes                   the input has ended, and a call answers what stands of a line
--     writes                     what stands on the page is written, and the page is empty again: after any call
--     over                       the input has ended, and nothing stands of a line or on the page
--   board_at r, table_at r         the struct and the table that a run ends with
--   Runs show s tb dp l n page bss   there is such a run, from an empty page
--   Ended s ls b tb              the struct b and the table tb hold the state that the machine comes to after the lines ls
use Rattle.std.specs.Prelude.{ℕ, ◌≡◌, List, [], ◌∷◌, ◌++◌, take, drop}
use Rattle.board.specs.declared.Board.{Board}
use Rattle.paging.specs.taking.declared.Show.{Show}
use Rattle.paging.specs.taking.Desk.{Taken}
use Rattle.paging.specs.Paging.{Fills}
use Rattle.finishing.specs.Finishing.{Finishes}
use Rattle.widening.specs.machine.State.{State as StateM}
use Rattle.widening.specs.machine.Log.{run}
use Rattle.board.specs.Board.{state_in, Held}

abbrev pub joined : List (List ℕ) → List ℕ
joined [] = []
joined (bs ∷ bss) = bs ++ joined bss

pub data Ran : Show → Board → List ℕ → List ℕ → List ℕ → ℕ → List ℕ → ℕ → List (List ℕ) → List ℕ → Type 0 where
  fills : {show : Show} {s : Board} {tb dp l : List ℕ} {n : ℕ} {page : List ℕ} {at : ℕ} {bs : List ℕ} {bss : List (List ℕ)} {out : List ℕ} {t : Taken} {l' tb' dp' page' : List ℕ}
      → Fills show s tb dp l n bs page at t l' tb' dp' page' → Ran show t.state tb' dp' l' t.line page' t.at (drop t.used bs ∷ bss) out
      → Ran show s tb dp l n page at (bs ∷ bss) out
  used_up : {show : Show} {s : Board} {tb dp l : List ℕ} {n : ℕ} {page : List ℕ} {at : ℕ} {bss : List (List ℕ)} {out : List ℕ}
      → Ran show s tb dp l n page at bss out → Ran show s tb dp l n page at ([] ∷ bss) out
  finishes : {show : Show} {s : Board} {tb dp l : List ℕ} {n : ℕ} {page : List ℕ} {at : ℕ} {out : List ℕ} {t : Taken} {tb' dp' page' : List ℕ}
      → Finishes show s tb dp l n page at t tb' dp' page' → Ran show t.state tb' dp' l t.line page' t.at [] out → Ran show s tb dp l n page at [] out
  writes : {show : Show} {s : Board} {tb dp l : List ℕ} {n : ℕ} {page : List ℕ} {at : ℕ} {bss : List (List ℕ)} {out : List ℕ}
      → Ran show s tb dp l n page 0 bss out → Ran show s tb dp l n page at bss (take at page ++ out)
  over : {show : Show} {s : Board} {tb dp l : List ℕ} {n : ℕ} {page : List ℕ} → n ≡ 0 → Ran show s tb dp l n page 0 [] []

unfoldable pub board_at : {show : Show} {s : Board} {tb dp l : List ℕ} {n : ℕ} {page : List ℕ} {at : ℕ} {bss : List (List ℕ)} {out : List ℕ} → Ran show s tb dp l n page at bss out → Board
board_at (fills w k) = board_at k
board_at (used_up k) = board_at k
board_at (finishes w k) = board_at k
board_at (writes k) = board_at k
board_at (over {s = s} z) = s

unfoldable pub table_at : {show : Show} {s : Board} {tb dp l : List ℕ} {n : ℕ} {page : List ℕ} {at : ℕ} {bss : List (List ℕ)} {out : List ℕ} → Ran show s tb dp l n page at bss out → List ℕ
table_at (fills w k) = table_at k
table_at (used_up k) = table_at k
table_at (finishes w k) = table_at k
table_at (writes k) = table_at k
table_at (over {tb = tb} z) = tb

-- whatever the lumps are: `run_exists` of proofs/Runs.antt
pub record Runs (show : Show) (s : Board) (tb dp l : List ℕ) (n : ℕ) (page : List ℕ) (bss : List (List ℕ)) : Type 0 where
  pub out : List ℕ
  pub ran : Ran show s tb dp l n page 0 bss out

-- the state at the end is the machine's: `ran_ends` of proofs/Whole.antt
pub record Ended (s : StateM) (ls : List (List ℕ)) (b : Board) (tb : List ℕ) : Type 0 where
  pub held : Held b tb
  pub state : state_in b tb ≡ (run s ls).next
