-- `words_of` meets its contract: the words of the first i are added up. Assumes nothing.
use mathlib.Core.Path.{◌≡◌}
use mathlib.Core.List.{map}
use lib.ListN.{take}
use Rattle.board.specs.store.Store.{request_in}
use Rattle.correcting.specs.lanes.Lanes.{weights}
use Rattle.recounting.proofs.words_of.Given as goal

abbrev pub invariant-loop-id : goal.invariant-loop-id
invariant-loop-id l = l.all ≡ weights (map (request_in l.table) (take l.id-index l.id-items))
