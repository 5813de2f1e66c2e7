-- What a call leaves in the bytes that are lent.
-- Assumes nothing.
--
--   Carried o r ..             a desk's call on the struct that the state's bytes hold: its outcome, whose state is the one that they
--                              hold behind it; the display that it shows; the result is the number of replies in both halves, the answer has each
--   Unread key ..              the state's bytes hold no struct: no replies, the answer 1 with map 0 and the key given, and nothing else moved
--   Carries o r ..             the promise of `carry`: the one or the other
use Rattle.std.specs.Prelude.{ℕ, ◌+◌, ◌≡◌, List}
use Rattle.answers.specs.machine.Numbers.{UNSOUND, NONE}
use Rattle.answers.specs.machine.Commands.{done}
use Rattle.image.specs.Image.{state_of, Whole, Saved}
use Rattle.answers.specs.declared.Request.{Request}
use Rattle.answers.specs.Answers.{answer_of}
use Rattle.handed.specs.refusals.declared.Op.{Op}
use Rattle.desk_call.specs.arbiter.Arbiter.{Shows}
use Rattle.desk_call.specs.DeskCall.{Outcome, Called}
use Rattle.handed.specs.Handed.{answer_bytes}

pub record Carried (o : Op) (r : Request) (ms st tb dp l : List ℕ) (n : ℕ) (st' tb' dp' l' an' : List ℕ) : Type 0 where
  pub outcome : Outcome
  pub called : Called o r (state_of st) ms tb l outcome tb' l'
  pub shown : Shows o r (state_of st) ms tb l dp dp'
  pub count : n ≡ outcome.a + outcome.b
  pub state : Saved outcome.state st'
  pub answer : an' ≡ answer_bytes outcome.answer outcome.a outcome.b

pub record Unread (key : ℕ) (st tb dp l : List ℕ) (n : ℕ) (st' tb' dp' l' an' : List ℕ) : Type 0 where
  pub count : n ≡ 0
  pub state : st' ≡ st
  pub table : tb' ≡ tb
  pub display : dp' ≡ dp
  pub list : l' ≡ l
  pub answer : an' ≡ answer_bytes (answer_of (done UNSOUND 0 key NONE)) 0 0

pub record Carries (o : Op) (r : Request) (ms st tb dp l : List ℕ) (n : ℕ) (st' tb' dp' l' an' : List ℕ) : Type 0 where
  pub read : Whole st → Carried o r ms st tb dp l n st' tb' dp' l' an'
  pub unread : (Whole st → ⊥) → Unread r.key st tb dp l n st' tb' dp' l' an'
