-- What a program in C is promised: the bytes that it gets back, for whatever bytes it lends.
-- Assumes nothing.
--
--   UNANSWERED                 255: the result of a call whose answer or display has no room
--   Room an dp                 the answer is lent its eight bytes and the display its 18
--   Unanswered ..              they are not: 255, and nothing moved
--   Crossed op r ..            the promise of `call`
--   Same n n₂ st st₂ ..        the same result and the same bytes
use Rattle.std.specs.Prelude.{ℕ, ◌≡◌, List, length}
use Rattle.answers.specs.machine.Log.{op_of}
use Rattle.bytes_call.specs.refusals.Refusals.{op_for}
use Rattle.image.specs.Image.{Whole}
use Rattle.answers.specs.declared.Request.{Request}
use Rattle.display.specs.Display.{DISPLAY}
use Rattle.starting.specs.sizes.Sizes.{ANSWER}
use Rattle.bytes_call.specs.BytesCall.{Carried, Unread}

abbrev pub UNANSWERED : ℕ
UNANSWERED = 255

abbrev pub Room : List ℕ → List ℕ → Type 0
Room an dp = (length an ≡ ANSWER) × (length dp ≡ DISPLAY)

pub record Unanswered (st tb dp l an : List ℕ) (n : ℕ) (st' tb' dp' l' an' : List ℕ) : Type 0 where
  pub count : n ≡ UNANSWERED
  pub state : st' ≡ st
  pub table : tb' ≡ tb
  pub display : dp' ≡ dp
  pub list : l' ≡ l
  pub answer : an' ≡ an

pub record Crossed (op : ℕ) (r : Request) (ms st tb dp l an : List ℕ) (n : ℕ) (st' tb' dp' l' an' : List ℕ) : Type 0 where
  pub unanswered : (Room an dp → ⊥) → Unanswered st tb dp l an n st' tb' dp' l' an'
  pub unread : Room an dp → (Whole st → ⊥) → Unread r.key st tb dp l n st' tb' dp' l' an'
  pub carried : Room an dp → Whole st → Carried (op_for (op_of op)) r ms st tb dp l n st' tb' dp' l' an'

-- no second outcome fits the promise: `one_crossing` of proofs/Crossing.antt
pub record Same (n n₂ : ℕ) (st st₂ tb tb₂ dp dp₂ l l₂ an an₂ : List ℕ) : Type 0 where
  pub count : n ≡ n₂
  pub state : st ≡ st₂
  pub table : tb ≡ tb₂
  pub display : dp ≡ dp₂
  pub list : l ≡ l₂
  pub answer : an ≡ an₂
