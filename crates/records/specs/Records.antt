-- Document 02, #110: "a list of records, one for each waiting request (id, precedence, held or not, desk), to be filled in order",
-- as the code fills it. Crate `display` says what a record is.
-- Assumes nothing.
--
--   four_bytes id p held   a record's bytes, of an id, a stored precedence and the mark
--   first_records cs q tb i   the records of the first i requests of a queue
--   Lists b tb l n l'     the promise of `fill_front`: l' has the records of all that wait in front, and is as l behind them; n is how many
use Rattle.std.specs.Prelude.{ℕ, ◌+◌, ◌%◌, ◌≡◌, List, [], ◌∷◌, map, length, take}
use Rattle.widening.specs.machine.State.{Channel}
use Rattle.widening.specs.machine.Desks.{desk_of}
use Rattle.display.specs.Display.{records}
use Rattle.table.specs.memory.Splice.{splice}
use Rattle.queue.specs.declared.Queue.{Queue}
use Rattle.board.specs.store.Store.{request_in}
use Rattle.board.specs.declared.Board.{Board}
use Rattle.board.specs.Board.{state_in}

abbrev pub four_bytes : ℕ → ℕ → ℕ → List ℕ
four_bytes id p held = id ∷ ((p + 128) % 256) ∷ held ∷ desk_of id ∷ []

abbrev pub first_records : List Channel → Queue → List ℕ → ℕ → List ℕ
first_records cs q tb i = records cs (map (request_in tb) (take i q.ids))

pub record Lists (b : Board) (tb l : List ℕ) (n : ℕ) (l' : List ℕ) : Type 0 where
  pub count : n ≡ length (state_in b tb).waiting
  pub filled : l' ≡ splice l 0 (records (state_in b tb).channels (state_in b tb).waiting)
