-- Document 02, #113, both assurances on the bytes that a program in C lends: runs of `qamhudeer_call`, by its promise `Crossed`, from
-- the bytes that `qamhudeer_fresh` left, by its promise `Started`. Of the code nothing else is used. Each call is lent the state and the
-- table that the one before it left; for the second assurance, which speaks of the display, also its display, and room for its answer.
-- proofs/Inspected.antt proves them as `nothing_left_in_the_bytes` and `nothing-slipped_into_the_bytes`.
-- Assumes nothing.
--
--   Chain st tb ts       each call, as in crates/c_runs, took the state and the table that the one before it left; the first took st and
--                        tb. Any display may be lent to it, and no room for an answer
--   Ran st tb dp ts      each took its display too, and has room for its answer; the first took dp
--   Fresh w st tb dp     `qamhudeer_fresh` left these bytes for w channels, where memory of the right sizes was lent
--   calls ts             the calls as the machine has them
--   state_after, table_after, display_after   the bytes that a run leaves
--   holds st tb          the state that bytes hold
--   Handed, handed t     what is handed in with a call: its numbers, combinations, reply list and room for the answer
--   Back, back t         what came back: the result, and the bytes of state, table, reply list and answer
--   reported t           the records that a call reports
--   LeftBytes           the first assurance
--   Inserted ..          how a run with the call t compares with one, us, without it
--   SlippedBytes        the second assurance
--   inspecting           one name that unfolds these definitions
use Rattle.std.specs.Prelude.{ℕ, ◌≤◌, ◌≡◌, List, [], ◌∷◌, ◌++◌, map, T, eqb, length, get_or, take, drop}
use Rattle.machine.specs.Lists.{all}
use Rattle.machine.specs.State.{Call, State as StateM}
use Rattle.display.specs.Display.{NUMBERS}
use Rattle.image.specs.board.Board.{state_in}
use Rattle.image.specs.Image.{state_of}
use Rattle.c_runs.specs.sizes.Sizes.{REPLIES}
use Rattle.c_runs.specs.starting.Starting.{Fits, Started}
use Rattle.c_runs.specs.code_runs.CodeRuns.{records}
use Rattle.c_runs.specs.CRuns.{Turn, asked, roomy, Took}
use Rattle.slipped.specs.nothing_left.NothingLeft.{NothingLeft}
use Rattle.slipped.specs.Slipped.{slips, settles_one}

-- ---- a run

abbrev pub Chain : List ℕ → List ℕ → List Turn → Type 0
Chain st tb [] = Unit {0}
Chain st tb (t ∷ ts) = Took st tb t × Chain t.state t.table ts

abbrev pub Ran : List ℕ → List ℕ → List ℕ → List Turn → Type 0
Ran st tb dp [] = Unit {0}
Ran st tb dp (t ∷ ts) = Took st tb t × T (roomy t) × (t.wall ≡ dp) × Ran t.state t.table t.display ts

-- "from a fresh device without loads"
pub record Fresh (w : ℕ) (st tb dp : List ℕ) : Type 0 where
  pub lent_state : List ℕ
  pub lent_table : List ℕ
  pub lent_display : List ℕ
  pub result : ℕ
  pub fits : Fits w lent_state lent_table lent_display
  pub started : Started w lent_state lent_table lent_display result st tb dp

abbrev pub calls : List Turn → List Call
calls ts = map asked ts

-- ---- what a run leaves

unfoldable pub state_after : List ℕ → List Turn → List ℕ
state_after st [] = st
state_after st (t ∷ ts) = state_after t.state ts

unfoldable pub table_after : List ℕ → List Turn → List ℕ
table_after tb [] = tb
table_after tb (t ∷ ts) = table_after t.table ts

unfoldable pub display_after : List ℕ → List Turn → List ℕ
display_after dp [] = dp
display_after dp (t ∷ ts) = display_after t.display ts

abbrev pub holds : List ℕ → List ℕ → StateM
holds st tb = state_in (state_of st) tb

-- ---- the first assurance

-- "after every call": the run is any
abbrev pub LeftBytes : Type 0
LeftBytes =
    (w : ℕ) (st tb dp : List ℕ) (ts : List Turn) → Fresh w st tb dp → Chain st tb ts
    → NothingLeft (holds (state_after st ts) (table_after tb ts))

-- ---- the second

pub record Handed : Type 0 where
  pub desk : ℕ
  pub op : ℕ
  pub id : ℕ
  pub flags : ℕ
  pub map : ℕ
  pub prec : ℕ
  pub key : ℕ
  pub combos : List ℕ
  pub lent : List ℕ
  pub room : List ℕ

unfoldable pub handed : Turn → Handed
handed t =
    record {
      desk = t.desk;
      op = t.op;
      id = t.id;
      flags = t.flags;
      map = t.map;
      prec = t.prec;
      key = t.key;
      combos = t.combos;
      lent = t.lent;
      room = t.room;
    }

pub record Back : Type 0 where
  pub n : ℕ
  pub state : List ℕ
  pub table : List ℕ
  pub list : List ℕ
  pub answer : List ℕ

unfoldable pub back : Turn → Back
back t = record { n = t.n; state = t.state; table = t.table; list = t.list; answer = t.answer }

-- the records that a call reports: as many of the first half as its answer's first number says, then of the second
unfoldable pub reported : Turn → List (List ℕ)
reported t = records (get_or t.answer 6 0) t.list ++ records (get_or t.answer 7 0) (drop 192 t.list)

pub record Inserted (st tb dp : List ℕ) (before : List Turn) (t : Turn) (behind us : List Turn) : Type 0 where
  -- "every other call's answer and replies, and the state after them": byte for byte
  pub others : map back (before ++ behind) ≡ map back us
  -- not a byte of the state or the table moved
  pub state : t.state ≡ state_after st before
  pub table : t.table ≡ table_after tb before
  -- it reports a reply to its own id at most: a record's first byte is its id (a list of fewer than 64 records is refused with 5)
  pub own : REPLIES ≤ length t.lent → T (all (λ b. eqb (get_or b 0 0) t.id) (reported t))
  pub once : t.n ≤ 1
  -- the display's numbers
  pub numbers : take NUMBERS (display_after dp (before ++ t ∷ behind)) ≡ take NUMBERS (display_after dp us)
  -- "The count of looks from #110 is the exception"
  pub looks : T (settles_one (holds (state_after st before) (table_after tb before)) (calls behind))
      → display_after dp (before ++ t ∷ behind) ≡ display_after dp us

-- "Insert it anywhere": a run with it, and any run in which the same is handed in without it
abbrev pub SlippedBytes : Type 0
SlippedBytes =
    (w : ℕ) (st tb dp : List ℕ) (before : List Turn) (t : Turn) (behind us : List Turn) → Fresh w st tb dp
    → Ran st tb dp (before ++ t ∷ behind) → Ran st tb dp us → map handed (before ++ behind) ≡ map handed us
    → T (slips (holds (state_after st before) (table_after tb before)) (asked t)) → Inserted st tb dp before t behind us

unfoldable pub inspecting : Unit {0}
unfolding state_after table_after display_after handed back reported
inspecting = tt
