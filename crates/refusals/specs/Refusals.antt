-- A call as it is handed in, the refusals of form as the code tests them, and the promise of `refusal`.
-- Assumes nothing.
--
--   op_in o n               the machine's operation; a command has its number n
--   op_for o                the machine's operation as the code's; a command's number stands in the request
--   asked_of o r ms len     the machine's call: a request with combinations ms and a reply list of len bytes, six to a record
--   open_tests .. command_tests    the tests after 1 and 5, which every operation has, each with its number; the board's maps are
--                          those below the bound, and so many keys are open
--   Refuses .. e           what `refusal` promises of a sound state: the number of the machine's refusal
use Rattle.std.specs.Prelude.{ℕ, ◌/◌, ◌≡◌, Bool, not, ◌&&◌, List, [], ◌∷◌, eqb, leb, ltb, length, if◌then◌else◌}
use Rattle.open_keys.specs.machine.Numbers.{OPENFAIL, NOCMD, BADLENGTH, BADADDRESS, NOTOPEN, INUSE, BADID, OTHERDESK, COMBOS, ENTRIES}
use Rattle.open_keys.specs.machine.Lists.{any, among}
use Rattle.open_keys.specs.machine.State.{Call, Op as OpM, OPEN, CLOSE, ABORT, EVENT, CYCLE_ENDED, GAVE_UP, COMMAND}
use Rattle.open_keys.specs.machine.Desks.{desk_of}
use Rattle.open_keys.specs.machine.Kinds.{kind, unknown, allocates, carries}
use Rattle.open_keys.specs.machine.Refusals.{refusal}
use Rattle.board.specs.declared.Board.{Board}
use Rattle.board.specs.Board.{state_in}
use Rattle.answers.specs.declared.Request.{Request}
use Rattle.steps.specs.Steps.{number_of, high, used, wrong_numbers}
use Rattle.refusals.specs.declared.Op.{Op}
use Rattle.refusals.specs.declared.Op.TheVariants.{Open, Close, Abort, CycleEnded, GaveUp, Command}

abbrev pub op_in : Op → ℕ → OpM
op_in Open n = OPEN
op_in Close n = CLOSE
op_in Abort n = ABORT
op_in CycleEnded n = EVENT CYCLE_ENDED
op_in GaveUp n = EVENT GAVE_UP
op_in Command n = COMMAND n

-- an operation as it is handed in
abbrev pub op_for : OpM → Op
op_for OPEN = Open
op_for CLOSE = Close
op_for ABORT = Abort
op_for (EVENT CYCLE_ENDED) = CycleEnded
op_for (EVENT GAVE_UP) = GaveUp
op_for (COMMAND n) = Command

abbrev pub asked_of : Op → Request → List ℕ → ℕ → Call
asked_of o r ms len =
    record {
      op = op_in o r.command;
      desk = r.desk;
      id = r.id;
      flags = r.flags;
      map = r.map;
      prec = r.prec;
      key = r.key;
      combos = ms;
      room = len / 6;
    }

abbrev pub open_tests : ℕ → List ℕ → ℕ → List (Bool × ℕ)
open_tests bound ms opens = (ltb COMBOS (length ms), BADLENGTH) ∷ (any (high bound) ms, BADADDRESS) ∷ (leb ENTRIES opens, OPENFAIL) ∷ []

abbrev pub close_tests : ℕ → List ℕ → List (Bool × ℕ)
close_tests key os = (not (among key os), NOTOPEN) ∷ []

abbrev pub abort_tests : ℕ → ℕ → List (Bool × ℕ)
abort_tests id desk = (ltb 63 id, BADID) ∷ (not (eqb (desk_of id) desk), OTHERDESK) ∷ []

abbrev pub command_tests : ℕ → Request → List ℕ → List ℕ → ℕ → List (Bool × ℕ)
command_tests bound r ms tb opens =
    (ltb 63 r.id, BADID)
    ∷ (not (eqb (desk_of r.id) r.desk), OTHERDESK)
    ∷ (used tb r.id, INUSE)
    ∷ (eqb opens 0, NOTOPEN)
    ∷ (unknown (kind r.command), NOCMD)
    ∷ (allocates (kind r.command) && ltb COMBOS (length ms), BADLENGTH)
    ∷ (if allocates (kind r.command) then any (high bound) ms else high bound r.map, BADADDRESS)
    ∷ (carries (kind r.command) && wrong_numbers ms, BADLENGTH)
    ∷ []

pub record Refuses (o : Op) (r : Request) (b : Board) (ms tb : List ℕ) (len e : ℕ) : Type 0 where
  pub number : e ≡ number_of (refusal (op_in o r.command) (asked_of o r ms len) (state_in b tb))
