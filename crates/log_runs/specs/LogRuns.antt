-- Demand 3 on what the log program writes: two logs with a common beginning, read in lumps of any size, on a board of 4 or 8
-- channels. Of the program only the promises of `fill` and `finish` are used, by `Ran` of crates/whole_log. Nothing is shown: document
-- 02, #110, "For the two-run rule these reports are the managers' and not a desk's". The logs begin on a fresh device: #106, "A load
-- replaces history, so demand 3's stretch begins after it", and a log that goes on from a saved text is a run of its own (crates/carrying).
-- Assumes nothing.
--
--   Log w l page pre xs bss out   a run of the program: its lumps are the common lines, then those of a stretch
--   begun w pre                   the state in which the stretch begins
--   Alike w p pre xs ys out out₂  what is shown of two outputs: each is what was written for the common lines, then, line by line,
--                                 for its stretch; what K reads is a part of that, and the same in both
--   Demand3Log                   two logs with the same calls of the K party show it the same
use Rattle.std.specs.Prelude.{ℕ, ◌≡◌, List, ◌++◌, T}
use Rattle.machine.specs.State.{State, fresh_on}
use Rattle.machine.specs.Log.{lines, run}
use Rattle.machine_laws.specs.Lists.{Sub}
use Rattle.display.specs.Display.{blank}
use Rattle.board.specs.store.Store.{table_of}
use Rattle.board.specs.Board.{struct_of, sized}
use Rattle.whole_log.specs.taking.Desk.{hidden}
use Rattle.whole_log.specs.Whole.{joined, Ran}
use Rattle.two_runs.specs.TwoRuns.{Party, Start, Keeps, own}
use Rattle.two_runs.specs.Logs.{Line, output, reads, steps, texts, joined_lines}

pub record Log (w : ℕ) (l page : List ℕ) (pre : List (List ℕ)) (xs : List Line) (bss : List (List ℕ)) (out : List ℕ) : Type 0 where
  pub ran : Ran hidden (struct_of (fresh_on w)) (table_of (fresh_on w)) blank l 0 page 0 bss out
  pub spelt : lines (joined bss) ≡ pre ++ texts xs

abbrev pub begun : ℕ → List (List ℕ) → State
begun w pre = (run (fresh_on w) pre).next

pub record Alike (w : ℕ) (p : Party) (pre : List (List ℕ)) (xs ys : List Line) (out out₂ : List ℕ) : Type 0 where
  pub first : out ≡ (run (fresh_on w) pre).output ++ joined_lines (output (begun w pre) xs)
  pub second : out₂ ≡ (run (fresh_on w) pre).output ++ joined_lines (output (begun w pre) ys)
  pub of_first : Sub (reads p (begun w pre) xs) (output (begun w pre) xs)
  pub of_second : Sub (reads p (begun w pre) ys) (output (begun w pre) ys)
  pub same : reads p (begun w pre) xs ≡ reads p (begun w pre) ys

abbrev pub Demand3Log : Type 0
Demand3Log =
    (w : ℕ) → T (sized w) → (p : Party) (l l₂ page page₂ : List ℕ) (pre : List (List ℕ)) (xs ys : List Line) (bss bss₂ : List (List ℕ)) (out out₂ : List ℕ)
    → Log w l page pre xs bss out → Log w l₂ page₂ pre ys bss₂ out₂ → Start p (begun w pre) → Keeps p (begun w pre) (steps xs)
    → Keeps p (begun w pre) (steps ys) → own (steps xs) ≡ own (steps ys) → Alike w p pre xs ys out out₂
