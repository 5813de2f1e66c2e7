-- Document 02, #113, both assurances for a log: after every line nothing is left standing, and a line whose call may be inserted adds
-- its own output and nothing else. proofs/Lines.antt proves them as `nothing_left_by_a_log` and `nothing-slipped_into_a_log`.
-- Assumes nothing.
--
--   call_in l             the call of a line; none where it is malformed
--   calls_in ls           the calls of lines, malformed ones left out
--   slips_by s c          the line's call is one that may be inserted in the state s
--   outputs s ls         what is written for each of the lines, from the state s
--   shown_by s ls d       the display after the lines
--   LeftLog             the first assurance: any lines, on n channels
--   Inserted s before l behind   how the lines `before`, then l, then `behind` compare with the same lines without l
--   SlippedLog          the second assurance
--   logging              one name that unfolds these definitions
use Rattle.std.specs.Prelude.{ℕ, ◌≡◌, Bool, false, List, [], ◌∷◌, ◌++◌, T, length, take}
use Rattle.std.proofs.Math.Option.{Option, none, some}
use Rattle.machine.specs.State.{State, Call, fresh_on}
use Rattle.machine.specs.Log.{unhex, frame, feed, run}
use Rattle.display.specs.Display.{NUMBERS, blank, displayed_by}
use Rattle.slipped.specs.nothing_left.NothingLeft.{NothingLeft}
use Rattle.slipped.specs.Slipped.{slips, leaving_out, settles_one}

abbrev pub call_in : List ℕ → Option Call
call_in l = frame (unhex l)

unfoldable pub together : Option Call → List Call → List Call
together none cs = cs
together (some c) cs = c ∷ cs

unfoldable pub calls_in : List (List ℕ) → List Call
calls_in [] = []
calls_in (l ∷ ls) = together (call_in l) (calls_in ls)

unfoldable pub slips_by : State → Option Call → Bool
slips_by s none = false
slips_by s (some c) = slips s c

unfoldable pub outputs : State → List (List ℕ) → List (List ℕ)
outputs s [] = []
outputs s (l ∷ ls) = (feed s l).output ∷ outputs (feed s l).next ls

unfoldable pub shown_by : State → List (List ℕ) → List ℕ → List ℕ
shown_by s [] d = d
shown_by s (l ∷ ls) d = shown_by (feed s l).next ls (displayed_by s (call_in l) d)

-- ---- the first assurance

-- "after every call": the lines are any
abbrev pub LeftLog : Type 0
LeftLog = (n : ℕ) (ls : List (List ℕ)) → NothingLeft (run (fresh_on n) ls).next

-- ---- the second

pub record Inserted (s : State) (before : List (List ℕ)) (l : List ℕ) (behind : List (List ℕ)) : Type 0 where
  -- "every other call's answer and replies": what is written for each other line
  pub others : leaving_out (length before) (outputs s (before ++ l ∷ behind)) ≡ outputs s (before ++ behind)
  -- so the whole output is that without it, with its own within
  pub written : (run s (before ++ l ∷ behind)).output ≡ (run s before).output ++ ((feed (run s before).next l).output ++ (run (run s before).next behind).output)
  pub unwritten : (run s (before ++ behind)).output ≡ (run s before).output ++ (run (run s before).next behind).output
  -- "and the state after them"
  pub state : (run s (before ++ l ∷ behind)).next ≡ (run s (before ++ behind)).next
  -- the numbers of the wall display, and "The count of looks from #110 is the exception"
  pub numbers : take NUMBERS (shown_by s (before ++ l ∷ behind) blank) ≡ take NUMBERS (shown_by s (before ++ behind) blank)
  pub looks : T (settles_one (run s before).next (calls_in behind))
      → shown_by s (before ++ l ∷ behind) blank ≡ shown_by s (before ++ behind) blank

-- "Insert it anywhere"
abbrev pub SlippedLog : Type 0
SlippedLog =
    (n : ℕ) (before : List (List ℕ)) (l : List ℕ) (behind : List (List ℕ)) → T (slips_by (run (fresh_on n) before).next (call_in l))
    → Inserted (fresh_on n) before l behind

unfoldable pub logging : Unit {0}
unfolding together calls_in slips_by outputs shown_by
logging = tt
