-- Document 02, #113, both assurances on the code. A run is a sequence of calls from a fresh board of 4 or 8 channels, each of which
-- took a board, a table and a display to an outcome, a table and a display as `Called` and `Shows`, the promises of `arbiter::call`,
-- say. Nothing else is asked of the code, so they hold of every implementation of these promises. proofs/Inspected.antt proves them
-- as `nothing_left_by_the_code` and `nothing-slipped_into_the_code`.
-- Assumes nothing.
--
--   Step                 one call, as in crates/code_runs, and the display that it left
--   Stepped st tb d x    it took the board st, the table tb and the display d there, by the promises
--   Ran st tb d xs       each call took what the one before it left; the first took st, tb and d
--   Fresh w xs           a run from a fresh board of w channels
--   turns xs, calls xs   its calls; the same as the machine has them
--   board_after, table_after, display_after   what a run leaves
--   state_after w xs      the state that the board and the table of a run from a fresh board hold
--   Handed, handed t     what is handed in with a call: operation, request, combinations and reply list
--   LeftCode            the first assurance
--   Inserted ..          how a run with the call x compares with one, ys, without it
--   SlippedCode         the second assurance
--   inspecting           one name that unfolds these definitions
use Rattle.std.specs.Prelude.{ℕ, ◌≤◌, ◌≡◌, List, [], ◌∷◌, ◌++◌, map, T, eqb, get_or, take}
use Rattle.machine.specs.Lists.{all}
use Rattle.machine.specs.State.{Call, State as StateM, fresh_on}
use Rattle.display.specs.Display.{NUMBERS, blank}
use Rattle.board.specs.store.Store.{table_of}
use Rattle.board.specs.declared.Board.{Board}
use Rattle.board.specs.Board.{sized, fresh_board, state_in}
use Rattle.answers.specs.declared.Request.{Request}
use Rattle.code_runs.specs.refusals.declared.Op.{Op}
use Rattle.code_runs.specs.arbiter.Arbiter.{Shows}
use Rattle.code_runs.specs.CodeRuns.{Turn, asked, Took, records}
use Rattle.slipped.specs.nothing_left.NothingLeft.{NothingLeft}
use Rattle.slipped.specs.Slipped.{slips, settles_one}

-- ---- a run

pub record Step : Type 0 where
  pub turn : Turn
  pub display : List ℕ

pub record Stepped (st : Board) (tb d : List ℕ) (x : Step) : Type 0 where
  pub took : Took st tb x.turn
  pub shows : Shows x.turn.op x.turn.request st x.turn.combos tb x.turn.lent d x.display

abbrev pub Ran : Board → List ℕ → List ℕ → List Step → Type 0
Ran st tb d [] = Unit {0}
Ran st tb d (x ∷ xs) = Stepped st tb d x × Ran x.turn.outcome.state x.turn.table x.display xs

-- "from a fresh device without loads"
abbrev pub Fresh : ℕ → List Step → Type 0
Fresh w xs = Ran (fresh_board w) (table_of (fresh_on w)) blank xs

abbrev pub turns : List Step → List Turn
turns xs = map (λ x. x.turn) xs

abbrev pub calls : List Step → List Call
calls xs = map asked (turns xs)

-- ---- what a run leaves

unfoldable pub board_after : Board → List Step → Board
board_after st [] = st
board_after st (x ∷ xs) = board_after x.turn.outcome.state xs

unfoldable pub table_after : List ℕ → List Step → List ℕ
table_after tb [] = tb
table_after tb (x ∷ xs) = table_after x.turn.table xs

unfoldable pub display_after : List ℕ → List Step → List ℕ
display_after d [] = d
display_after d (x ∷ xs) = display_after x.display xs

unfoldable pub state_after : ℕ → List Step → StateM
state_after w xs = state_in (board_after (fresh_board w) xs) (table_after (table_of (fresh_on w)) xs)

-- ---- the first assurance

-- "after every call": the run is any
abbrev pub LeftCode : Type 0
LeftCode = (w : ℕ) → T (sized w) → (xs : List Step) → Fresh w xs → NothingLeft (state_after w xs)

-- ---- the second

pub record Handed : Type 0 where
  pub op : Op
  pub request : Request
  pub combos : List ℕ
  pub lent : List ℕ

unfoldable pub handed : Turn → Handed
handed t = record { op = t.op; request = t.request; combos = t.combos; lent = t.lent }

pub record Inserted (w : ℕ) (before : List Step) (x : Step) (behind ys : List Step) : Type 0 where
  -- "every other call's answer and replies, and the state after them": outcomes, tables and reply lists, byte for byte
  pub others : turns (before ++ behind) ≡ turns ys
  -- the board and the table that it left are those that it took
  pub board : x.turn.outcome.state ≡ board_after (fresh_board w) before
  pub table : x.turn.table ≡ table_after (table_of (fresh_on w)) before
  -- it reports a reply to its own id at most: a record's first byte is its id
  pub own : T (all (λ b. eqb (get_or b 0 0) x.turn.request.id) (records x.turn.outcome.n x.turn.list))
  pub once : x.turn.outcome.n ≤ 1
  -- the numbers of the display
  pub numbers : take NUMBERS (display_after blank (before ++ x ∷ behind)) ≡ take NUMBERS (display_after blank ys)
  -- "The count of looks from #110 is the exception"
  pub looks : T (settles_one (state_after w before) (calls behind)) → display_after blank (before ++ x ∷ behind) ≡ display_after blank ys

-- "Insert it anywhere": a run with it, and any run in which the same is handed in without it
abbrev pub SlippedCode : Type 0
SlippedCode =
    (w : ℕ) → T (sized w) → (before : List Step) (x : Step) (behind ys : List Step) → Fresh w (before ++ x ∷ behind) → Fresh w ys
    → map handed (turns (before ++ behind)) ≡ map handed (turns ys) → T (slips (state_after w before) (asked x.turn))
    → Inserted w before x behind ys

unfoldable pub inspecting : Unit {0}
unfolding board_after table_after display_after state_after handed
inspecting = tt
