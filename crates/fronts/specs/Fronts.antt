-- The front write of a channel, said of structs.
-- Assumes nothing.
--
--   on_air c            a write is in progress: the queue is not stopped and not empty
--   leads_at i c        the write i is at its front
--   passes f c         the test by its name; named f m c: of a channel that the lowest bit of m names
--   meaning f          the machine's test of that name: proofs/Laws.antt shows that the two agree
use Rattle.std.specs.Prelude.{ℕ, Bool, not, ◌&&◌, eqb, get_or}
use Rattle.machine.specs.State.{Channel as ChannelM}
use Rattle.machine.specs.Maps.{odd}
use Rattle.machine.specs.Commands.{playing, leads}
use Rattle.channel.specs.declared.Channel.{Channel}
use Rattle.fronts.specs.declared.Front.{Front}
use Rattle.fronts.specs.declared.Front.TheVariants.{Plays, Leads}

unfoldable pub on_air : Channel → Bool
on_air c = not c.stopped && not (eqb c.writes.n 0)

unfoldable pub leads_at : ℕ → Channel → Bool
leads_at i c = not (eqb c.writes.n 0) && eqb i (get_or c.writes.ids 0 0)

abbrev pub passes : Front → Channel → Bool
passes Plays c = on_air c
passes (Leads i) c = leads_at i c

unfoldable pub named : Front → ℕ → Channel → Bool
named f m c = odd m && passes f c

abbrev pub meaning : Front → ChannelM → Bool
meaning Plays c = playing c
meaning (Leads i) c = leads i c.writes
