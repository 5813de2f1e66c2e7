-- `matching` meets its contract: the bits found and what the channels from i on add make the map. Assumes nothing.
use Rattle.channel.specs.Channel.{hits}
use Rattle.channel.proofs.Turns.{Matched}
use Rattle.image.specs.Image.{state_of}
use Rattle.named_channels.proofs.matching.Given as goal

abbrev pub invariant-loop-i : goal.invariant-loop-i
invariant-loop-i l = Matched (hits l.key) l.map (state_of l.state).state.channels l.ok l.i
