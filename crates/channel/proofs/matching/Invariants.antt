-- `matching` meets its contract: the bits found and what the channels from i on add make the map. Assumes nothing.
use Rattle.channel.specs.Channel.{hits}
use Rattle.channel.proofs.Turns.{Matched}
use Rattle.channel.proofs.matching.Given as goal

abbrev pub invariant-loop-i : goal.invariant-loop-i
invariant-loop-i l = Matched (hits l.key) l.map l.fn.cs l.ok l.i
