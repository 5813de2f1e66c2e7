-- The promise of a desk's call on any bytes: the machine's outcome where a sound state is handed in, its replies in the two halves of the
-- list, and nothing moved where not.
-- Assumes nothing.
--
--   room_of n                        as many bytes as are lent, 384 at most
--   Outcome                         an answer, the board afterwards, and how many replies there are in each half
--   outcome_in st d                  that of a call on lent bytes: what it answers, and the board that they hold behind it
--   Told o l d tb' l'               the machine's outcome o: answer, state, and the replies in the halves, each with its number
--   Unmoved r b tb l ..             the answer to a state that is not sound: 1, map 0, the key given; not a byte has moved
--   Called o r b ms tb l d tb' l'   the promise of `call` on a board: b, the table tb and the list l became d, tb' and l'
--   Same d d₂ tb tb₂ l l₂           the same answer, board, numbers, table and list
--   Unread r st tb l dp ..          the answer where the state's bytes hold no struct: 1, map 0, the key given; not a byte has moved
--   Lent o r ms st tb l dp d ..     the promise of `call` on any bytes st: of the board that they hold, or unread
use Rattle.std.specs.Prelude.{ℕ, ◌≡◌, List, ltb, length, if◌then◌else◌}
use Rattle.answers.specs.machine.Numbers.{UNSOUND, NONE}
use Rattle.answers.specs.machine.State.{Outcome as OutcomeM}
use Rattle.answers.specs.machine.Desks.{DESK_A, DESK_B, replies_to}
use Rattle.answers.specs.machine.Commands.{done}
use Rattle.answers.specs.machine.Call.{call}
use Rattle.halves.specs.Halves.{laid}
use Rattle.answers.specs.store.Store.{table_of}
use Rattle.answers.specs.declared.Request.{Request}
use Rattle.answers.specs.declared.Answer.{Answer}
use Rattle.answers.specs.Answers.{answer_of}
use Rattle.image.specs.board.declared.Board.{Board}
use Rattle.image.specs.board.Board.{struct_of, state_in, Held}
use Rattle.image.specs.Image.{state_of, Whole}
use Rattle.arbiter.specs.refusals.declared.Op.{Op}
use Rattle.arbiter.specs.refusals.Refusals.{asked_of}
use Rattle.arbiter.specs.Arbiter.{Shows}
use Rattle.desk_call.specs.declared.Answered.{Answered}

abbrev pub room_of : ℕ → ℕ
room_of n = if ltb n 384 then n else 384

pub record Outcome : Type 0 where
  pub answer : Answer
  pub state : Board
  pub a : ℕ
  pub b : ℕ

abbrev pub outcome_in : List ℕ → Answered → Outcome
outcome_in st d = record { answer = d.answer; state = state_of st; a = d.a; b = d.b }

pub record Told (o : OutcomeM) (l : List ℕ) (d : Outcome) (tb' l' : List ℕ) : Type 0 where
  pub answer : d.answer ≡ answer_of o.answer
  pub struct : d.state ≡ struct_of o.next
  pub table : tb' ≡ table_of o.next
  -- #109: "each half with its own number"
  pub numbers : (d.a ≡ length (replies_to DESK_A o.replies)) × (d.b ≡ length (replies_to DESK_B o.replies))
  pub list : l' ≡ laid l o.replies

pub record Unmoved (r : Request) (b : Board) (tb l : List ℕ) (d : Outcome) (tb' l' : List ℕ) : Type 0 where
  pub answer : d.answer ≡ answer_of (done UNSOUND 0 r.key NONE)
  pub state : d.state ≡ b
  pub numbers : (d.a ≡ 0) × (d.b ≡ 0)
  pub table : tb' ≡ tb
  pub list : l' ≡ l

pub record Called (o : Op) (r : Request) (b : Board) (ms tb l : List ℕ) (d : Outcome) (tb' l' : List ℕ) : Type 0 where
  pub sound : Held b tb → Told (call (state_in b tb) (asked_of o r ms (length l))) l d tb' l'
  pub unsound : (Held b tb → ⊥) → Unmoved r b tb l d tb' l'

pub record Unread (r : Request) (st tb l dp : List ℕ) (d : Answered) (st' tb' l' dp' : List ℕ) : Type 0 where
  pub answer : d.answer ≡ answer_of (done UNSOUND 0 r.key NONE)
  pub numbers : (d.a ≡ 0) × (d.b ≡ 0)
  pub state : st' ≡ st
  pub table : tb' ≡ tb
  pub list : l' ≡ l
  pub display : dp' ≡ dp

pub record Lent (o : Op) (r : Request) (ms st tb l dp : List ℕ) (d : Answered) (st' tb' l' dp' : List ℕ) : Type 0 where
  pub read : Whole st → Whole st' × Called o r (state_of st) ms tb l (outcome_in st' d) tb' l'
      × Shows o r (state_of st) ms tb l dp dp'
  pub unread : (Whole st → ⊥) → Unread r st tb l dp d st' tb' l' dp'

-- no second outcome fits the promise: `one_call` of proofs/Promise.antt
pub record Same (d d₂ : Outcome) (tb tb₂ l l₂ : List ℕ) : Type 0 where
  pub outcome : d ≡ d₂
  pub table : tb ≡ tb₂
  pub list : l ≡ l₂
