-- Document 02, #113, the second assurance: "take any command other than ALLOCATE whose id is valid and idle, whose desk may use it,
-- and whose key is on no channel. Insert it anywhere; every other call's answer and replies, and the state after them, are as without
-- it. The count of looks from #110 is the exception and is shown only for the last call." proofs/Slipped.antt proves it as
-- `nothing-slipped_in`.
-- Assumes nothing.
--
--   other_command o         a command other than ALLOCATE; unknown numbers are commands, ABORT, OPEN, CLOSE and the events are not
--   on_no_channel k s        the key is on no channel; key 0 never is
--   mild s c               a command other than ALLOCATE, whose key is on no channel
--   slips s c              all that the assurance asks of the command that is inserted
--   outcomes s cs          what calls, made in turn, come to: answer, replies and the state after each
--   leaving_out k xs        the list without what stands at place k
--   settles_one s cs        one of the calls cs, made in turn from s, settles
--   Inserted s before c behind   how the calls `before`, then c, then `behind` compare with the same calls without c
--   NothingSlipped         the assurance; a board of n channels, and any other calls
--   slip                   one name that unfolds these definitions
use Rattle.std.specs.Prelude.{ℕ, suc, ◌≤◌, ◌≡◌, Bool, false, not, ◌&&◌, ◌||◌, List, [], ◌∷◌, ◌++◌, T, eqb, ltb, length, take, drop}
use Rattle.machine.specs.Numbers.{REQUESTS, ADCMD_ALLOCATE}
use Rattle.machine.specs.Lists.{all, among}
use Rattle.machine.specs.State.{State, Outcome, Call, Op, OPEN, CLOSE, ABORT, EVENT, COMMAND, fresh_on}
use Rattle.machine.specs.Desks.{foreign}
use Rattle.machine.specs.Commands.{matches}
use Rattle.machine.specs.Sound.{ids}
use Rattle.machine.specs.Call.{call}
use Rattle.display.specs.Display.{NUMBERS, blank}
use Rattle.display.specs.Runs.{after_calls, shown_after}
use Rattle.nothing_left.specs.Settles.{settles}

-- ---- what is inserted

-- "any command other than ALLOCATE"
unfoldable pub other_command : Op → Bool
other_command OPEN = false
other_command CLOSE = false
other_command ABORT = false
other_command (EVENT e) = false
other_command (COMMAND n) = not (eqb n ADCMD_ALLOCATE)

-- "whose key is on no channel"; "Key 0 matches nothing."
unfoldable pub on_no_channel : ℕ → State → Bool
on_no_channel k s = all (λ c. not (matches k c)) s.channels

unfoldable pub mild : State → Call → Bool
mild s c = other_command c.op && on_no_channel c.key s

-- "whose id is valid and idle, whose desk may use it"
unfoldable pub slips : State → Call → Bool
slips s c = ltb c.id REQUESTS && not (among c.id (ids s)) && not (foreign c) && mild s c

-- ---- a run, and the same without it

unfoldable pub outcomes : State → List Call → List Outcome
outcomes s [] = []
outcomes s (c ∷ cs) = call s c ∷ outcomes (call s c).next cs

unfoldable pub leaving_out {ℓ} : {A : Type ℓ} → ℕ → List A → List A
leaving_out k xs = take k xs ++ drop (suc k) xs

-- a call behind which the looks are its own
unfoldable pub settles_one : State → List Call → Bool
settles_one s [] = false
settles_one s (c ∷ cs) = settles s c || settles_one (call s c).next cs

-- the display begins blank, as on a fresh device
pub record Inserted (s : State) (before : List Call) (c : Call) (behind : List Call) : Type 0 where
  -- "every other call's answer and replies, and the state after them, are as without it"
  pub others : leaving_out (length before) (outcomes s (before ++ c ∷ behind)) ≡ outcomes s (before ++ behind)
  pub state : after_calls s (before ++ c ∷ behind) ≡ after_calls s (before ++ behind)
  -- it replies to nobody else: a reply to its own id at most
  pub own : T (all (λ r. eqb r.id c.id) (call (after_calls s before) c).replies)
  pub once : length (call (after_calls s before) c).replies ≤ 1
  -- the numbers of the wall display are as without it
  pub numbers : take NUMBERS (shown_after s (before ++ c ∷ behind) blank) ≡ take NUMBERS (shown_after s (before ++ behind) blank)
  -- "The count of looks from #110 is the exception": as soon as a later call settles they too are
  pub looks : T (settles_one (after_calls s before) behind)
      → shown_after s (before ++ c ∷ behind) blank ≡ shown_after s (before ++ behind) blank

-- "Insert it anywhere"
abbrev pub NothingSlipped : Type 0
NothingSlipped =
    (n : ℕ) (before : List Call) (c : Call) (behind : List Call) → T (slips (after_calls (fresh_on n) before) c)
    → Inserted (fresh_on n) before c behind

unfoldable pub slip : Unit {0}
unfolding other_command on_no_channel mild slips outcomes leaving_out settles_one
slip = tt
