-- The order of the waiting requests, and the entries of the idle ids.
-- Assumes nothing.
--
--   falling tb p is    the precedences of the requests fall, from p on
--   rest_idle tb seen n the entries of the ids below n that were not seen are all 0
use Rattle.std.specs.Prelude.{ℕ, zero, suc, Bool, true, not, ◌&&◌, ◌||◌, List, [], ◌∷◌, eqb, leb, get_or}
use Rattle.table.specs.memory.Splice.{block}
use Rattle.table.specs.Entry.{idle}
use Rattle.placing.specs.store.Store.{request_in}
use Rattle.placing.specs.entries.Entries.{same}

unfoldable pub falling : List ℕ → ℕ → List ℕ → Bool
falling tb p [] = true
falling tb p (i ∷ is) = leb (request_in tb i).prec p && falling tb (request_in tb i).prec is

unfoldable pub rest_idle : List ℕ → List ℕ → ℕ → Bool
rest_idle tb seen zero = true
rest_idle tb seen (suc n) = (not (eqb (get_or seen n 0) 0) || same (block 23 tb n) idle) && rest_idle tb seen n
