-- `open_place` meets its contract: the first i keys are others. Assumes nothing.
use Prim.Native.Nat.{◌+◌}
use mathlib.Core.Path.{◌≡◌}
use lib.ListN.{get_or, drop}
use Rattle.open_keys.specs.OpenKeys.{index_of, keys_in}
use Rattle.image.specs.Image.{open_at}
use Rattle.lent_opens.proofs.open_place.Given as goal

abbrev pub invariant-loop-i : goal.invariant-loop-i
invariant-loop-i l = (l.n ≡ get_or l.state 755 0)
    × (l.i + index_of l.key (drop l.i (keys_in (open_at l.state 755))) ≡ index_of l.key (keys_in (open_at l.state 755)))
