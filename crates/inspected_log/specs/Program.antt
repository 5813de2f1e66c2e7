-- Document 02, #113, the second assurance for what the log program writes: two logs, one with a line more, each read in lumps of any
-- size, on a board of 4 or 8 channels. Of the program only the promises of `fill` and `finish` are used, by `Ran` of
-- crates/whole_log. Where the display is shown its looks are the exception. proofs/Program.antt proves it as
-- `nothing-slipped_into_the_program`.
-- Assumes nothing.
--
--   Read show w l page ls bss out   a run of the program from a fresh board: its lumps spell the lines ls, and it wrote out
--   text show w ls                  what is written for lines from the fresh device
--   own show w before x             for the line x behind them
--   more show w before ls           for the lines ls behind them
--   Inserted ..                     two outputs, with the line x and without it
--   SlippedProgram                 the assurance
use Rattle.std.specs.Prelude.{ℕ, ◌≡◌, not, List, ◌∷◌, ◌++◌, T}
use Rattle.machine.specs.State.{fresh_on}
use Rattle.machine.specs.Log.{lines, run}
use Rattle.display.specs.Display.{blank}
use Rattle.board.specs.store.Store.{table_of}
use Rattle.board.specs.Board.{struct_of, sized}
use Rattle.whole_log.specs.taking.declared.Show.{Show}
use Rattle.whole_log.specs.taking.Desk.{fed, run_shown}
use Rattle.whole_log.specs.Whole.{joined, Ran}
use Rattle.inspected_lines.specs.slipped.Slipped.{settles_one}
use Rattle.inspected_lines.specs.Lines.{call_in, calls_in, slips_by, shown_by}

pub record Read (show : Show) (w : ℕ) (l page : List ℕ) (ls bss : List (List ℕ)) (out : List ℕ) : Type 0 where
  pub ran : Ran show (struct_of (fresh_on w)) (table_of (fresh_on w)) blank l 0 page 0 bss out
  pub spelt : lines (joined bss) ≡ ls

abbrev pub text : Show → ℕ → List (List ℕ) → List ℕ
text show w ls = run_shown show (fresh_on w) blank ls

abbrev pub own : Show → ℕ → List (List ℕ) → List ℕ → List ℕ
own show w before x = (fed show (run (fresh_on w) before).next (shown_by (fresh_on w) before blank) x).output

abbrev pub more : Show → ℕ → List (List ℕ) → List (List ℕ) → List ℕ
more show w before ls = run_shown show (run (fresh_on w) before).next (shown_by (fresh_on w) before blank) ls

pub record Inserted (show : Show) (w : ℕ) (before : List (List ℕ)) (x : List ℕ) (behind : List (List ℕ)) (out out₂ : List ℕ) : Type 0 where
  -- without the line: what is written for the lines before it, then for those behind it
  pub without : out₂ ≡ text show w before ++ more show w before behind
  -- with it, and the display not shown: the same, and its own between
  pub within : T (not show.display) → out ≡ text show w before ++ (own show w before x ++ more show w before behind)
  -- and whatever is shown, from the first later line that settles on
  pub later : (mid ls : List (List ℕ)) → behind ≡ mid ++ ls → T (settles_one (run (fresh_on w) before).next (calls_in mid))
      → (out ≡ text show w (before ++ x ∷ mid) ++ more show w (before ++ mid) ls) × (out₂ ≡ text show w (before ++ mid) ++ more show w (before ++ mid) ls)

abbrev pub SlippedProgram : Type 0
SlippedProgram =
    (show : Show) (w : ℕ) → T (sized w) → (l l₂ page page₂ : List ℕ) (before : List (List ℕ)) (x : List ℕ) (behind bss bss₂ : List (List ℕ)) (out out₂ : List ℕ)
    → Read show w l page (before ++ x ∷ behind) bss out → Read show w l₂ page₂ (before ++ behind) bss₂ out₂
    → T (slips_by (run (fresh_on w) before).next (call_in x)) → Inserted show w before x behind out out₂
