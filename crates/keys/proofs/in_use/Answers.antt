-- `in_use` meets its contract: on a channel, or else at a waiting request, or else open. Assumes nothing.
use Rattle.keys.specs.Keys.{used_in}
use Rattle.keys.proofs.in_use.Goals as goal

pub returns-then-on_channel : goal.returns-then-on_channel
unfolding used_in
returns-then-on_channel c = rw (← c.on_channel.ensures, c.if-on_channel.true)

pub returns-then-on_waiting : goal.returns-then-on_waiting
unfolding used_in
returns-then-on_waiting c = rw (← c.on_channel.ensures, c.if-on_channel.false, ← c.on_waiting.ensures, c.if-on_waiting.true)

pub returns : goal.returns
unfolding used_in
returns c =
    rw (← c.on_channel.ensures, c.if-on_channel.false, ← c.on_waiting.ensures, c.if-on_waiting.false)
    c.has.ensures
