-- What a step asks and promises of what it is lent: the words of crates `store` and `answers`, said of bytes, before and after.
-- Assumes nothing.
--
--   Lent                 what is lent to a step: the bytes of the state, the table, the replies
--   held_in l             the state of the machine that they hold
--   LentReady l n k      they hold a sound state; the list has room for 64 replies, n are there and k more fit
--   LentDid s rs l n ..  afterwards they hold the state s, of as many channels, and the replies rs stand behind the first n
--   LentDoes f l d l'    what a command promises: the machine's rule f on the state that they hold
use Rattle.std.specs.Prelude.{ℕ, List}
use Rattle.answers.specs.machine.State.{State as StateM, Reply, Outcome as OutcomeM}
use Rattle.image.specs.store.Store.{state_in}
use Rattle.image.specs.store.Work.{Ready, Did}
use Rattle.answers.specs.declared.Answered.{Answered}
use Rattle.answers.specs.Answers.{outcome, Told}
use Rattle.image.specs.Image.{Whole}
use Rattle.lent.specs.Lent.{struct_in, Kept}

pub record Lent : Type 0 where
  pub state : List ℕ
  pub table : List ℕ
  pub replies : List ℕ

abbrev pub held_in : Lent → StateM
held_in l = state_in (struct_in l.state) l.table

abbrev pub LentReady : Lent → ℕ → ℕ → Type 0
LentReady l n k = Whole l.state × Ready (struct_in l.state) l.table l.replies n k

abbrev pub LentDid : StateM → List Reply → Lent → ℕ → Lent → ℕ → Type 0
LentDid s rs l n l' n' = Kept l.state l'.state × Did s rs l.replies n (struct_in l'.state) l'.table l'.replies n'

abbrev pub LentDoes : (StateM → OutcomeM) → Lent → Answered → Lent → Type 0
LentDoes f l d l' = Kept l.state l'.state × Told (f (held_in l)) l.replies (outcome (struct_in l'.state) d) l'.table l'.replies
