-- A run of the machine as a run of the code: a call that hands in the numbers of a machine's call, and becomes the machine's outcome.
-- Laws: `machine_runs_are_code_runs` of proofs/Made.antt.
-- Assumes nothing.
--
--   number_out o     the number of a command; 0 of what is none
--   blank n         a reply list of n records, all 0
--   outcome_of o     the outcome of the code that stands for one of the machine's
--   made s c        the call of the code
--   moves s xs      the run of the code
--   OnBoard s       a sound state of a board of four or of eight channels
use Rattle.std.specs.Prelude.{ℕ, ◌*◌, List, [], ◌∷◌, T, length, replicate}
use Rattle.answers.specs.machine.State.{Call, Op as OpM, OPEN, CLOSE, ABORT, EVENT, COMMAND, Outcome as OutcomeM, State as StateM}
use Rattle.answers.specs.machine.Call.{call}
use Rattle.answers.specs.machine.Sound.{sound}
use Rattle.answers.specs.reply.Replies.{sent}
use Rattle.answers.specs.store.Store.{table_of}
use Rattle.board.specs.Board.{sized, struct_of}
use Rattle.board.specs.declared.Outcome.{Outcome}
use Rattle.answers.specs.Answers.{answer_of}
use Rattle.arbiter.specs.refusals.Refusals.{op_for}
use Rattle.two_runs.specs.TwoRuns.{Step, our, their}
use Rattle.code_runs.specs.CodeRuns.{Turn, Move, ours, others}

abbrev pub number_out : OpM → ℕ
number_out OPEN = 0
number_out CLOSE = 0
number_out ABORT = 0
number_out (EVENT v) = 0
number_out (COMMAND n) = n

abbrev pub blank : ℕ → List ℕ
blank n = replicate (n * 6) 0

abbrev pub outcome_of : OutcomeM → Outcome
outcome_of o = record { answer = answer_of o.answer; state = struct_of o.next; n = length o.replies }

abbrev pub made : StateM → Call → Turn
made s c =
    record {
      op = op_for c.op;
      request = record { desk = c.desk; command = number_out c.op; id = c.id; flags = c.flags; map = c.map; prec = c.prec; key = c.key };
      combos = c.combos;
      lent = blank c.room;
      outcome = outcome_of (call s c);
      table = table_of (call s c).next;
      list = sent (blank c.room) 0 (call s c).replies;
    }

abbrev pub moves : StateM → List Step → List Move
moves s [] = []
moves s (our c ∷ xs) = ours (made s c) ∷ moves (call s c).next xs
moves s (their c ∷ xs) = others (made s c) ∷ moves (call s c).next xs

pub record OnBoard (s : StateM) : Type 0 where
  pub sane : T (sound s)
  pub size : T (sized (length s.channels))
