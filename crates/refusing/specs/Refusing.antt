-- What a refused call answers and sends.
-- Assumes nothing.
--
--   is_due o e, due_replies o e r    after a refusal with e: a command's own reply is due; what is sent
--   Refused o e r s l d l'    what a refusal comes to: the number, the state as it was, those replies
use Rattle.std.specs.Prelude.{ℕ, ◌≡◌, Bool, false, List, [], ltb, length, if◌then◌else◌}
use Rattle.answers.specs.machine.Numbers.{OTHERDESK, NONE}
use Rattle.answers.specs.machine.State.{Reply}
use Rattle.answers.specs.machine.Commands.{done}
use Rattle.answers.specs.reply.Replies.{sent}
use Rattle.answers.specs.store.declared.State.{State}
use Rattle.answers.specs.declared.Request.{Request}
use Rattle.answers.specs.declared.Outcome.{Outcome}
use Rattle.answers.specs.Answers.{answer_of, own_reply}
use Rattle.refusals.specs.declared.Op.{Op}
use Rattle.refusals.specs.declared.Op.TheVariants.{Open, Close, Abort, CycleEnded, GaveUp, Command}

-- "After 1 to 5", and #109: after 8, "the reply list is too; after -3, -4 and -5 it gains only the command's own reply, if due."
abbrev pub is_due : Op → ℕ → Bool
is_due Open e = false
is_due Close e = false
is_due Abort e = false
is_due CycleEnded e = false
is_due GaveUp e = false
is_due Command e = ltb OTHERDESK e

abbrev pub due_replies : Op → ℕ → Request → List Reply
due_replies o e r = if is_due o e then own_reply r (done e 0 r.key NONE) else []

pub record Refused (o : Op) (e : ℕ) (r : Request) (s : State) (l : List ℕ) (d : Outcome) (l' : List ℕ) : Type 0 where
  pub answer : d.answer ≡ answer_of (done e 0 r.key NONE)
  pub state : d.state ≡ s
  pub count : d.n ≡ length (due_replies o e r)
  pub list : l' ≡ sent l 0 (due_replies o e r)
