-- `lengths` meets its contract: each number is its channel's. Assumes nothing.
use Rattle.store.specs.machine.State.{free}
use Rattle.channel.specs.Channel.{channel_of}
use Rattle.channel_numbers.proofs.Laws.{lengths_each}
use borrow.Author.Rules.{rules}
use Rattle.channel_numbers.proofs.lengths.Goals as goal

pub returns : goal.returns
returns c = lengths_each c.args.cs c.map.result (search rules) (λ i h. let it = c.map.ensures.items.at i (channel_of free) 0 (search rules) in search rules)
