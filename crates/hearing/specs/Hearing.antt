-- One line of a log on the bytes of a state, a table and a display, whatever they are: what is promised.
-- Assumes nothing.
--
--   Kept st tb                    the bytes hold a sound state: the state's are whole, and the table is theirs
--   held_in st tb                  that state
--   Served l st tb dp text st' tb' dp'    a line on a sound state: the machine's `feed`, its output `text`, its state in the bytes, and the
--                                 display that its call shows
--   Unserved l st tb dp text st' tb' dp'  a line on any other: 1 to a frame, with its key, and 7 to what is none; nothing moves
--   Hears l st tb dp text st' tb' dp'     a line on any bytes
--   Tells l st tb dp out n st' tb' dp' out'   the promise of `hear`: that output, n bytes of it, stands in front of `out`
--   Same n n₂ st st₂ ..           the same number of bytes, and the same bytes
use Rattle.std.specs.Prelude.{ℕ, ◌≡◌, List, length}
use Rattle.machine.specs.State.{State as StateM}
use Rattle.machine.specs.Log.{unhex, frame, feed}
use Rattle.display.specs.Display.{displayed_by}
use Rattle.memory.specs.Splice.{splice}
use Rattle.image.specs.store.Store.{table_of}
use Rattle.image.specs.board.Board.{struct_of, state_in, Held}
use Rattle.image.specs.Image.{state_of, Whole, Saved}
use Rattle.feeding.specs.unheard.Unheard.{unheard}

pub record Kept (st tb : List ℕ) : Type 0 where
  pub whole : Whole st
  pub held : Held (state_of st) tb

abbrev pub held_in : List ℕ → List ℕ → StateM
held_in st tb = state_in (state_of st) tb

pub record Served (l st tb dp text st' tb' dp' : List ℕ) : Type 0 where
  pub output : text ≡ (feed (held_in st tb) l).output
  pub state : Saved (struct_of (feed (held_in st tb) l).next) st'
  pub table : tb' ≡ table_of (feed (held_in st tb) l).next
  pub display : dp' ≡ displayed_by (held_in st tb) (frame (unhex l)) dp

-- "1: state handed in is not sound"; "After 1 .. the state is as before"
pub record Unserved (l st tb dp text st' tb' dp' : List ℕ) : Type 0 where
  pub output : text ≡ unheard (frame (unhex l))
  pub state : st' ≡ st
  pub table : tb' ≡ tb
  pub display : dp' ≡ dp

pub record Hears (l st tb dp text st' tb' dp' : List ℕ) : Type 0 where
  pub sound : Kept st tb → Served l st tb dp text st' tb' dp'
  pub unsound : (Kept st tb → ⊥) → Unserved l st tb dp text st' tb' dp'

pub record Tells (l st tb dp out : List ℕ) (n : ℕ) (st' tb' dp' out' : List ℕ) : Type 0 where
  pub text : List ℕ
  pub heard : Hears l st tb dp text st' tb' dp'
  pub count : n ≡ length text
  pub bytes : out' ≡ splice out 0 text

-- no second outcome fits the promise: `one_telling` of proofs/Laws.antt
pub record Same (n n₂ : ℕ) (st st₂ tb tb₂ dp dp₂ out out₂ : List ℕ) : Type 0 where
  pub count : n ≡ n₂
  pub state : st ≡ st₂
  pub table : tb ≡ tb₂
  pub display : dp ≡ dp₂
  pub output : out ≡ out₂
