-- Document 02, #109: demand 3 for a desk, on the bytes that a program in C lends: "if they are not, demand 3 holds for a desk with "its
-- half" for "its request ids"". proofs/Desk.antt proves it as `desk_sees_the_same_bytes`, and that the records that it reads are those
-- of its half of the list.
-- Assumes nothing.
--
--   KeepsApart, RunOfDesk    as in crates/two_runs, on bytes
--   half d t                 the records of desk d's half, as many as the answer tells
--   Demand3DeskBytes       two runs with the same calls of the desk show it the same
use Rattle.std.specs.Prelude.{ℕ, ◌+◌, ◌*◌, ◌≡◌, ◌⊎◌, List, [], ◌∷◌, T, get_or, drop}
use Rattle.image.specs.board.Board.{state_in, Held}
use Rattle.image.specs.Image.{state_of, Whole}
use Rattle.two_runs.specs.TwoRuns.{Party, Start, ByK}
use Rattle.two_runs.specs.Core.{misses}
use Rattle.two_runs.specs.Desk.{of_desk, ByOtherDesk}
use Rattle.code_runs.specs.CodeRuns.{records}
use Rattle.c_runs.specs.CRuns.{Turn, asked, roomy, Move, ours, others, Chained, Full, own_calls, sights}

abbrev pub KeepsApart : ℕ → Party → List ℕ → List ℕ → List Move → Type 0
KeepsApart d p st tb [] = Unit {0}
KeepsApart d p st tb (ours t ∷ ms) =
    (T (roomy t) → ByK p (state_in (state_of st) tb) (asked t) ⊎ T (misses (asked t).op (asked t))) × KeepsApart d p t.state t.table ms
KeepsApart d p st tb (others t ∷ ms) =
    (T (roomy t) → ByOtherDesk d p (state_in (state_of st) tb) (asked t)) × KeepsApart d p t.state t.table ms

pub record RunOfDesk (d : ℕ) (p : Party) (st tb : List ℕ) (ms : List Move) : Type 0 where
  pub chained : Chained st tb ms
  pub keeps : KeepsApart d p st tb ms
  pub full : Full ms

unfoldable pub half : ℕ → Turn → List (List ℕ)
half d t = records (get_or t.answer (6 + d) 0) (drop (d * 192) t.list)

abbrev pub Demand3DeskBytes : Type 0
Demand3DeskBytes =
    (d k f : ℕ) (st tb : List ℕ) (ms ns : List Move) → Whole st → Held (state_of st) tb → Start (of_desk d k f) (state_in (state_of st) tb)
    → RunOfDesk d (of_desk d k f) st tb ms → RunOfDesk d (of_desk d k f) st tb ns
    → own_calls ms ≡ own_calls ns → sights (of_desk d k f) st tb ms ≡ sights (of_desk d k f) st tb ns
