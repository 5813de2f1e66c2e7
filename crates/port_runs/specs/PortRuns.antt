-- Demand 3 through the service port (document 02, #107): two logs, each fed in fragments of any length, go on from the bytes of one sound
-- state. Runs of `qamhudeer_feed` and `qamhudeer_feed_end`, by their promises and nothing else: `Ran` of crates/slow_line. Where the two
-- are cut, which ports and rooms are lent and what the displays show may be unlike (#110: "these reports are the managers' and not a
-- desk's"). The state may be one that was loaded: #106, "demand 3's stretch begins after it". proofs/PortRuns.antt proves the claim as
-- `k_reads_the_same_through_the_port`.
-- Assumes nothing.
--
--   Fed st tb xs out st₂ tb₂   a log whose fragments spell the lines of a stretch, from a port on which nothing stands and the bytes st
--                              and tb: its output, and the bytes that it left
--   Alike p s xs ys out out₂ t t₂   what is shown of two outputs, from the state s to t and t₂: each is what is written, line by line,
--                              for its stretch; what K reads is a part of that, and the same in both; and so are its
--                              channels in the end, with who waits for their cycles
--   Demand3Port               two logs with the same calls of the K party show it the same
use Rattle.std.specs.Prelude.{ℕ, ◌≡◌, List}
use Rattle.machine.specs.State.{State}
use Rattle.machine.specs.Log.{lines}
use Rattle.machine_laws.specs.Lists.{Sub}
use Rattle.slow_line.specs.port.Port.{started_in}
use Rattle.slow_line.specs.hearing.Hearing.{Kept, held_in}
use Rattle.slow_line.specs.whole_log.Whole.{joined}
use Rattle.slow_line.specs.Slow.{Ran}
use Rattle.two_runs.specs.TwoRuns.{Party, Start, Keeps, own, view, waiters_of}
use Rattle.two_runs.specs.Logs.{Line, output, reads, steps, texts, joined_lines}

pub record Fed (st tb : List ℕ) (xs : List Line) (out st₂ tb₂ : List ℕ) : Type 0 where
  pub port : List ℕ
  pub last_port : List ℕ
  pub display : List ℕ
  pub last_display : List ℕ
  -- "in fragments of any length, some of them with no bytes"
  pub fragments : List (List ℕ)
  pub none : started_in port ≡ 0
  pub ran : Ran port st tb display fragments out last_port st₂ tb₂ last_display
  pub spelt : lines (joined fragments) ≡ texts xs

pub record Alike (p : Party) (s : State) (xs ys : List Line) (out out₂ : List ℕ) (t t₂ : State) : Type 0 where
  pub first : out ≡ joined_lines (output s xs)
  pub second : out₂ ≡ joined_lines (output s ys)
  pub of_first : Sub (reads p s xs) (output s xs)
  pub of_second : Sub (reads p s ys) (output s ys)
  pub same : reads p s xs ≡ reads p s ys
  pub channels : (view p t ≡ view p t₂) × (waiters_of p t ≡ waiters_of p t₂)

abbrev pub Demand3Port : Type 0
Demand3Port =
    (p : Party) (st tb : List ℕ) (xs ys : List Line) (out st₂ tb₂ out₃ st₃ tb₃ : List ℕ) → Kept st tb → Start p (held_in st tb)
    → Fed st tb xs out st₂ tb₂ → Fed st tb ys out₃ st₃ tb₃ → Keeps p (held_in st tb) (steps xs) → Keeps p (held_in st tb) (steps ys)
    → own (steps xs) ≡ own (steps ys) → Alike p (held_in st tb) xs ys out out₃ (held_in st₂ tb₂) (held_in st₃ tb₃)
