-- A state with k free channels more, behind its own. Assumes nothing.
--
--   widen k s        the state with them behind its channels
--   widen_o k o, widen_s k t   an outcome, a settling's result, with the state widened
--   small_list n ms   each of the maps fits n channels
--   Waits n rs       so do those of all waiting requests
--   Few s            fewer keys may be in use than there are: a new one is found before the count comes round
use Rattle.std.specs.Prelude.{ℕ, ◌^◌, ◌+◌, ◌<◌, Bool, List, ◌++◌, T, ltb, length}
use Rattle.machine_laws.specs.machine.Lists.{all}
use Rattle.machine_laws.specs.machine.State.{Channel, State, Outcome, frees, with_channels, Request}
use Rattle.machine_laws.specs.machine.Settling.{Settled}

abbrev pub wider : ℕ → List Channel → List Channel
wider k cs = cs ++ frees k

abbrev pub widen : ℕ → State → State
widen k s = with_channels (wider k s.channels) s

abbrev pub widen_o : ℕ → Outcome → Outcome
widen_o k o = record { answer = o.answer; replies = o.replies; next = widen k o.next }

abbrev pub widen_s : ℕ → Settled → Settled
widen_s k t = record { state = widen k t.state; replies = t.replies }

unfoldable pub small_list : ℕ → List ℕ → Bool
small_list n ms = all (λ m. ltb m (2 ^ n)) ms

abbrev pub Few : State → Type 0
Few s = length s.channels + length s.waiting + length s.opens < 65535

abbrev pub Waits : ℕ → List Request → Type 0
Waits n rs = T (all (λ r. small_list n r.combos) rs)
