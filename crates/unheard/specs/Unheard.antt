-- A line of a log that is not served: what is promised of it.
-- Assumes nothing.
--
--   Fed                the state after a line, and how many bytes of output there are
--   dull               the output of a line that is no frame
--   Dull s out f out'  its promise: the state stays, that output stands in front
--   unheard c                       the output of a line on a state that is not sound, given its call, if it is one
--   Unheard s l out f out'          its promise: that output, and the state stays
use Rattle.std.specs.Prelude.{ℕ, ◌≡◌, List, length}
use Rattle.std.proofs.Math.Option.{Option, none, some}
use Rattle.answers.specs.machine.Numbers.{MALFORMED, UNSOUND, NONE}
use Rattle.answers.specs.machine.State.{Call}
use Rattle.answers.specs.machine.Commands.{done}
use Rattle.answers.specs.machine.Log.{unhex, frame, answer_line}
use Rattle.memory.specs.Splice.{splice}
use Rattle.board.specs.declared.Board.{Board}

pub record Fed : Type 0 where
  pub state : Board
  pub n : ℕ

abbrev pub dull : List ℕ
dull = answer_line (done MALFORMED 0 0 NONE)

pub record Dull (s : Board) (out : List ℕ) (f : Fed) (out' : List ℕ) : Type 0 where
  pub state : f.state ≡ s
  pub count : f.n ≡ length dull
  pub bytes : out' ≡ splice out 0 dull

abbrev pub unheard : Option Call → List ℕ
unheard none = dull
unheard (some c) = answer_line (done UNSOUND 0 c.key NONE)

pub record Unheard (s : Board) (l out : List ℕ) (f : Fed) (out' : List ℕ) : Type 0 where
  pub state : f.state ≡ s
  pub count : f.n ≡ length (unheard (frame (unhex l)))
  pub bytes : out' ≡ splice out 0 (unheard (frame (unhex l)))
