-- `which` meets its contract: the bits found and what the channels from i on add make the map. Assumes nothing.
use Rattle.fronts.specs.Fronts.{named}
use Rattle.channel.proofs.Turns.{Matched}
use Rattle.fronts.proofs.which.Given as goal

abbrev pub invariant-loop-i : goal.invariant-loop-i
invariant-loop-i l = Matched (named l.front) l.map l.fn.cs l.ok l.i
