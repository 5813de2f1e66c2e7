-- Demand 3 on the bytes that a program in C lends: runs of `qamhudeer_call`, by its promise `Crossed` and nothing else. The
-- premises are those of crates/two_runs, said of the states that the bytes hold. proofs/CRuns.antt proves the claim as
-- `k_sees_the_same_bytes`. #110: "For the two-run rule these reports are the managers' and not a desk's": whatever display is lent,
-- it is no part of what the K party or a desk sees.
-- Assumes nothing.
--
--   Turn                 one call: the numbers, combinations, display, reply list and room for the answer as lent; the result, and all
--                        bytes as they became
--   request t, asked t   its numbers as the struct has them; as the machine's call has them
--   roomy t              its answer and its display have room. A call without is answered 255, and moves nothing: it may stand in a run,
--                        whosever it is, and nothing more is asked of it
--   Took st tb t         it took the bytes of a state and a table there, by the promise; a key and a WRITE's count of cycles are two
--                        bytes
--   Move, Chained, Keeps, Full, Run   as in crates/code_runs, on bytes
--   own_calls ms          the numbers of the K party's calls, in order; `none` for a call without room
--   spoken t             the answer of document 01: the six bytes before the two numbers. These count everybody's replies, so they
--                        are not the K party's to see. Of a call without room the result
--   own_records p t       the records to the K party's ids: of the first half, as many as the answer's first number says, then of the
--                        second, as many as its second. A call without room reports none
--   view_bytes p st       the bytes of the board's channels, those without K as a free one's
--   Sight, sights p st tb ms   the bytes of answers, records, channels and what the table stores of them, in the order of the run
--   Demand3Bytes        two runs with the same calls of the K party show it the same
--   bytes_claim           one name that unfolds these definitions
use Rattle.std.specs.Prelude.{ℕ, ◌≤◌, ◌≡◌, List, [], ◌∷◌, ◌++◌, map, Bool, ◌&&◌, T, eqb, length, get_or, take, drop, if◌then◌else◌}
use Rattle.std.proofs.Math.Option.{Option, none, some}
use Rattle.machine.specs.State.{Call}
use Rattle.machine.specs.Log.{op_of}
use Rattle.image.specs.board.Board.{state_in, Held}
use Rattle.image.specs.Image.{state_of, Whole, channel_bytes}
use Rattle.answers.specs.declared.Request.{Request}
use Rattle.code_runs.specs.refusals.Refusals.{asked_of, op_for}
use Rattle.display.specs.Display.{DISPLAY}
use Rattle.boundary.specs.sizes.Sizes.{ANSWER, REPLIES}
use Rattle.boundary.specs.handed.Handed.{request_of}
use Rattle.boundary.specs.Boundary.{Crossed}
use Rattle.two_runs.specs.TwoRuns.{Party, Start, ByK, ByOthers, counted, said}
use Rattle.code_runs.specs.CodeRuns.{records_to, view_of, stored_of}

pub record Turn : Type 0 where
  pub desk : ℕ
  pub op : ℕ
  pub id : ℕ
  pub flags : ℕ
  pub map : ℕ
  pub prec : ℕ
  pub key : ℕ
  pub combos : List ℕ
  pub wall : List ℕ
  pub lent : List ℕ
  pub room : List ℕ
  pub n : ℕ
  pub state : List ℕ
  pub table : List ℕ
  pub display : List ℕ
  pub list : List ℕ
  pub answer : List ℕ

abbrev pub request : Turn → Request
request t = request_of t.desk t.op t.id t.flags t.map t.prec t.key

abbrev pub asked : Turn → Call
asked t = asked_of (op_for (op_of t.op)) (request t) t.combos (length t.lent)

unfoldable pub roomy : Turn → Bool
roomy t = eqb (length t.room) ANSWER && eqb (length t.wall) DISPLAY

pub record Took (st tb : List ℕ) (t : Turn) : Type 0 where
  pub crossed : Crossed t.op (request t) t.combos st tb t.wall t.lent t.room t.n t.state t.table t.display t.list t.answer
  pub key : t.key ≤ 65535
  pub count : T (counted (asked t).op (asked t))

pub data Move : Type 0 where
  ours : Turn → Move
  others : Turn → Move

abbrev pub turn : Move → Turn
turn (ours t) = t
turn (others t) = t

abbrev pub Chained : List ℕ → List ℕ → List Move → Type 0
Chained st tb [] = Unit {0}
Chained st tb (m ∷ ms) = Took st tb (turn m) × Chained (turn m).state (turn m).table ms

abbrev pub Keeps : Party → List ℕ → List ℕ → List Move → Type 0
Keeps p st tb [] = Unit {0}
Keeps p st tb (ours t ∷ ms) = (T (roomy t) → ByK p (state_in (state_of st) tb) (asked t)) × Keeps p t.state t.table ms
Keeps p st tb (others t ∷ ms) = (T (roomy t) → ByOthers p (state_in (state_of st) tb) (asked t)) × Keeps p t.state t.table ms

abbrev pub Full : List Move → Type 0
Full [] = Unit {0}
Full (m ∷ ms) = (T (roomy (turn m)) → REPLIES ≤ length (turn m).lent) × Full ms

pub record Run (p : Party) (st tb : List ℕ) (ms : List Move) : Type 0 where
  pub chained : Chained st tb ms
  pub keeps : Keeps p st tb ms
  pub full : Full ms

unfoldable pub own_calls : List Move → List (Option Call)
own_calls [] = []
own_calls (ours t ∷ ms) = (if roomy t then some (said (asked t)) else none) ∷ own_calls ms
own_calls (others t ∷ ms) = own_calls ms

unfoldable pub spoken : Turn → List ℕ
spoken t = if roomy t then take 6 t.answer else t.n ∷ []

-- "Replies for desk B go into the reply list from record 32 onward, those for A before it, each half with its own number."
unfoldable pub own_records : Party → Turn → List (List ℕ)
own_records p t =
    if roomy t then records_to p (get_or t.answer 6 0) t.list ++ records_to p (get_or t.answer 7 0) (drop 192 t.list) else []

unfoldable pub view_bytes : Party → List ℕ → List (List ℕ)
view_bytes p st = map channel_bytes (view_of p (state_of st))

pub data Sight : Type 0 where
  told : List ℕ → Sight
  got : List ℕ → Sight
  has : List (List ℕ) → List (List ℕ) → Sight

unfoldable pub sights : Party → List ℕ → List ℕ → List Move → List Sight
sights p st tb [] = has (view_bytes p st) (stored_of p (state_of st) tb) ∷ []
sights p st tb (ours t ∷ ms) =
    map got (own_records p t)
    ++ told (spoken t) ∷ has (view_bytes p t.state) (stored_of p (state_of t.state) t.table) ∷ sights p t.state t.table ms
sights p st tb (others t ∷ ms) = map got (own_records p t) ++ sights p t.state t.table ms

abbrev pub Demand3Bytes : Type 0
Demand3Bytes =
    (p : Party) (st tb : List ℕ) (ms ns : List Move) → Whole st → Held (state_of st) tb → Start p (state_in (state_of st) tb) → Run p st tb ms → Run p st tb ns
    → own_calls ms ≡ own_calls ns → sights p st tb ms ≡ sights p st tb ns

unfoldable pub bytes_claim : Unit {0}
unfolding roomy own_calls spoken own_records view_bytes sights
bytes_claim = tt
