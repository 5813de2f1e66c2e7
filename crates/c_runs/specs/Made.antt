-- A run of the machine as a run of a program in C: a call that hands in numbers and lends a full reply list, and becomes the bytes of the
-- machine's outcome. Laws: `machine_runs_are_runs_of_C` of proofs/Witness.antt.
-- Assumes nothing.
--
--   Ask                  the numbers of a call, as a program in C hands them in
--   records              a reply list of 64 records, all 0
--   spelt a              the machine's call
--   bytes_of s            the bytes of a state
--   made s a             the call, with what every byte lent becomes
--   missed s             a call without room for its answer, and so unanswered
--   Says                 a call of the K party's, or another; or one of theirs without room
--   steps xs, moves s xs   such calls as a run of the machine; as a run of a program in C
--   own_says xs           the party's calls among them; none where one has no room
use Rattle.std.specs.Prelude.{ℕ, ◌+◌, List, [], ◌∷◌, length, replicate}
use Rattle.std.proofs.Math.Option.{Option, none, some}
use Rattle.machine.specs.State.{Call, State as StateM}
use Rattle.machine.specs.Desks.{DESK_A, DESK_B, replies_to}
use Rattle.machine.specs.Log.{op_of}
use Rattle.machine.specs.Call.{call}
use Rattle.display.specs.Display.{blank, displayed}
use Rattle.halves.specs.Halves.{laid}
use Rattle.image.specs.store.Store.{table_of}
use Rattle.image.specs.board.Board.{struct_of}
use Rattle.image.specs.Image.{image_of}
use Rattle.answers.specs.Answers.{answer_of}
use Rattle.code_runs.specs.refusals.Refusals.{asked_of, op_for}
use Rattle.boundary.specs.handed.Handed.{request_of, answer_bytes}
use Rattle.boundary.specs.Boundary.{UNANSWERED}
use Rattle.two_runs.specs.TwoRuns.{Step, our, their, said}
use Rattle.c_runs.specs.CRuns.{Turn, Move, ours, others}

pub record Ask : Type 0 where
  pub desk : ℕ
  pub op : ℕ
  pub id : ℕ
  pub flags : ℕ
  pub map : ℕ
  pub prec : ℕ
  pub key : ℕ
  pub combos : List ℕ

abbrev pub records : List ℕ
records = replicate 384 0

abbrev pub spelt : Ask → Call
spelt a = asked_of (op_for (op_of a.op)) (request_of a.desk a.op a.id a.flags a.map a.prec a.key) a.combos (length records)

abbrev pub bytes_of : StateM → List ℕ
bytes_of s = image_of (struct_of s)

abbrev pub made : StateM → Ask → Turn
made s a =
    let o = call s (spelt a) in
    record {
      desk = a.desk;
      op = a.op;
      id = a.id;
      flags = a.flags;
      map = a.map;
      prec = a.prec;
      key = a.key;
      combos = a.combos;
      wall = blank;
      lent = records;
      room = replicate 8 0;
      n = length (replies_to DESK_A o.replies) + length (replies_to DESK_B o.replies);
      state = bytes_of o.next;
      table = table_of o.next;
      display = displayed s (spelt a) blank;
      list = laid records o.replies;
      answer = answer_bytes (answer_of o.answer) (length (replies_to DESK_A o.replies)) (length (replies_to DESK_B o.replies));
    }

-- a call without room for its answer, an OPEN: nothing is read of it
abbrev pub missed : StateM → Turn
missed s =
    record {
      desk = 0;
      op = 0xF0;
      id = 0;
      flags = 0;
      map = 0;
      prec = 0;
      key = 0;
      combos = [];
      wall = blank;
      lent = [];
      room = [];
      n = UNANSWERED;
      state = bytes_of s;
      table = table_of s;
      display = blank;
      list = [];
      answer = [];
    }

pub data Says : Type 0 where
  our_ask : Ask → Says
  their_ask : Ask → Says
  our_miss : Says
  their_miss : Says

abbrev pub steps : List Says → List Step
steps [] = []
steps (our_ask a ∷ xs) = our (spelt a) ∷ steps xs
steps (their_ask a ∷ xs) = their (spelt a) ∷ steps xs
steps (our_miss ∷ xs) = steps xs
steps (their_miss ∷ xs) = steps xs

abbrev pub moves : StateM → List Says → List Move
moves s [] = []
moves s (our_ask a ∷ xs) = ours (made s a) ∷ moves (call s (spelt a)).next xs
moves s (their_ask a ∷ xs) = others (made s a) ∷ moves (call s (spelt a)).next xs
moves s (our_miss ∷ xs) = ours (missed s) ∷ moves s xs
moves s (their_miss ∷ xs) = others (missed s) ∷ moves s xs

-- the party's calls among them
abbrev pub own_says : List Says → List (Option Call)
own_says [] = []
own_says (our_ask a ∷ xs) = some (said (spelt a)) ∷ own_says xs
own_says (their_ask a ∷ xs) = own_says xs
own_says (our_miss ∷ xs) = none ∷ own_says xs
own_says (their_miss ∷ xs) = own_says xs
