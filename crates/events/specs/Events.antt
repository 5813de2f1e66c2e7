-- The words in which the events are promised.
-- Assumes nothing.
--
--   plays_at m cs      the place of the lowest channel that m names, where a write is in progress there; 8 otherwise
--   met_replies m s    what is replied to who waits for a cycle of the channels that m names
--   Meets m s ..      the promise of `meet`: the state without them, those replies
use Rattle.std.specs.Prelude.{ℕ, List, map, leb, length, get_or, if◌then◌else◌}
use Rattle.answers.specs.machine.Lists.{keep}
use Rattle.answers.specs.machine.State.{Reply, State as StateM, free}
use Rattle.answers.specs.machine.Granting.{on_channels, cut}
use Rattle.answers.specs.machine.Commands.{met}
use Rattle.channel.specs.declared.Channel.{Channel}
use Rattle.channel.specs.Channel.{channel_of, lowest_from}
use Rattle.cutting.specs.fronts.Fronts.{on_air}
use Rattle.answers.specs.store.declared.State.{State}
use Rattle.answers.specs.store.Store.{state_in}
use Rattle.answers.specs.store.Work.{Did}
use Rattle.answers.specs.store.declared.Progress.{Progress}

unfoldable pub plays_at : ℕ → List Channel → ℕ
plays_at m cs =
    let i = lowest_from 8 m in
    if leb 8 i then 8 else if on_air (get_or cs i (channel_of free)) then i else 8

abbrev pub met_replies : ℕ → StateM → List Reply
met_replies m s = map met (keep (on_channels (length s.channels) m) s.waiters)

abbrev pub Meets : ℕ → State → List ℕ → List ℕ → Progress → List ℕ → List ℕ → Type 0
Meets m s tb l d tb' l' = Did (cut m (state_in s tb)) (met_replies m (state_in s tb)) l 0 d.state tb' l' d.n
