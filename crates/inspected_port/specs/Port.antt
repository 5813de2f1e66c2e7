-- Document 02, #113, both assurances for a log fed through a port in fragments of any length, from the bytes that `qamhudeer_fresh`
-- left: runs of `qamhudeer_feed` and `qamhudeer_feed_end`, by their promises and nothing else. proofs/Port.antt proves them as
-- `nothing_left_behind_the_port` and `nothing-slipped_through_the_port`.
-- Assumes nothing.
--
--   Fed w ls out st tb dp    a run on w channels, whose fragments spell the lines ls: its output, and the bytes that it left
--   LeftPort                the first assurance
--   Inserted ..              two runs, with the line x and without it
--   SlippedPort             the second assurance
use Rattle.std.specs.Prelude.{ℕ, ◌≡◌, List, ◌∷◌, ◌++◌, T, take}
use Rattle.machine.specs.State.{fresh_on}
use Rattle.machine.specs.Log.{feed, lines, run}
use Rattle.display.specs.Display.{NUMBERS}
use Rattle.slow_line.specs.starting.Starting.{Fits, Started}
use Rattle.slow_line.specs.port.Port.{started_in}
use Rattle.slow_line.specs.hearing.Hearing.{held_in}
use Rattle.slow_line.specs.whole_log.Whole.{joined}
use Rattle.slow_line.specs.Slow.{Ran}
use Rattle.inspected_lines.specs.nothing_left.NothingLeft.{NothingLeft}
use Rattle.inspected_lines.specs.slipped.Slipped.{settles_one}
use Rattle.inspected_lines.specs.Lines.{call_in, calls_in, slips_by}

pub record Fed (w : ℕ) (ls : List (List ℕ)) (out st tb dp : List ℕ) : Type 0 where
  -- memory of the right sizes, and what `qamhudeer_fresh` made of it
  pub lent_state : List ℕ
  pub lent_table : List ℕ
  pub lent_display : List ℕ
  pub result : ℕ
  pub first_state : List ℕ
  pub first_table : List ℕ
  pub first_display : List ℕ
  pub fits : Fits w lent_state lent_table lent_display
  pub started : Started w lent_state lent_table lent_display result first_state first_table first_display
  -- a port on which nothing stands, and the fragments
  pub port : List ℕ
  pub last_port : List ℕ
  pub fragments : List (List ℕ)
  pub none : started_in port ≡ 0
  pub ran : Ran port first_state first_table first_display fragments out last_port st tb dp
  pub spelt : lines (joined fragments) ≡ ls

-- "after every call": the log is any
abbrev pub LeftPort : Type 0
LeftPort = (w : ℕ) (ls : List (List ℕ)) (out st tb dp : List ℕ) → Fed w ls out st tb dp → NothingLeft (held_in st tb)

pub record Inserted (w : ℕ) (before : List (List ℕ)) (x : List ℕ) (behind : List (List ℕ)) (out st tb dp out₂ st₂ tb₂ dp₂ : List ℕ) : Type 0 where
  -- the output without the line, and with it: its own within
  pub without : out₂ ≡ (run (fresh_on w) before).output ++ (run (run (fresh_on w) before).next behind).output
  pub within : out ≡ (run (fresh_on w) before).output ++ ((feed (run (fresh_on w) before).next x).output ++ (run (run (fresh_on w) before).next behind).output)
  -- every byte of the state and the table
  pub state : st ≡ st₂
  pub table : tb ≡ tb₂
  -- and of the display, where a later line settles; its numbers in any case
  pub numbers : take NUMBERS dp ≡ take NUMBERS dp₂
  pub looks : T (settles_one (run (fresh_on w) before).next (calls_in behind)) → dp ≡ dp₂

abbrev pub SlippedPort : Type 0
SlippedPort =
    (w : ℕ) (before : List (List ℕ)) (x : List ℕ) (behind : List (List ℕ)) (out st tb dp out₂ st₂ tb₂ dp₂ : List ℕ)
    → Fed w (before ++ x ∷ behind) out st tb dp → Fed w (before ++ behind) out₂ st₂ tb₂ dp₂ → T (slips_by (run (fresh_on w) before).next (call_in x))
    → Inserted w before x behind out st tb dp out₂ st₂ tb₂ dp₂
