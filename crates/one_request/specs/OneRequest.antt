-- What the steps leave that are done to one waiting request.
-- Assumes nothing.
--
--   out_at i s     the state without the waiting request at place i
--   dropped_replies i s              the reply -11 to it
--   granted_at i m s, granted_replies i m s   the state in which it is granted the map m, and the replies: to the writes that
--                 end and to who waits for a cycle of theirs, then its own
--   Makes f g ..  a step's promise: of the state held it makes the state f, and behind the first n replies it sends g
--   stolen m s, without_locks m s   the replies -12 to the locks over a channel of m, and the state without those locks
use Rattle.std.specs.Prelude.{ℕ, suc, not, List, [], ◌∷◌, ◌++◌, map, length, take, drop}
use Rattle.machine_laws.specs.machine.Numbers.{ALLOCFAILED, CHANNELSTOLEN}
use Rattle.machine_laws.specs.machine.Lists.{keep}
use Rattle.machine_laws.specs.machine.State.{Reply, State, with_waiting, with_locks}
use Rattle.machine_laws.specs.machine.Maps.{meets}
use Rattle.machine_laws.specs.machine.Granting.{key_for, dropped, granted}
use Rattle.machine_laws.specs.machine.Commands.{ended}
use Rattle.machine_laws.specs.machine.Settling.{replied}
use Rattle.locks.specs.store.declared.State.{State as Struct}
use Rattle.locks.specs.store.Store.{state_in}
use Rattle.locks.specs.store.Work.{Did}
use Rattle.waiting.specs.Waiting.{waiter}
use Rattle.locks.specs.store.declared.Progress.{Progress}

abbrev pub out_at : ℕ → State → State
out_at i s = with_waiting (take i s.waiting ++ drop (suc i) s.waiting) s

abbrev pub stolen : ℕ → State → List Reply
stolen m s = map (ended CHANNELSTOLEN) (keep (λ l. meets (length s.channels) m l.map) s.locks)

abbrev pub without_locks : ℕ → State → State
without_locks m s = with_locks (keep (λ l. not (meets (length s.channels) m l.map)) s.locks) s

abbrev pub dropped_replies : ℕ → State → List Reply
dropped_replies i s = replied ALLOCFAILED 0 (waiter i s).key (waiter i s) ∷ []

abbrev pub granted_at : ℕ → ℕ → State → State
granted_at i m s = granted m (waiter i s).key (waiter i s).prec (out_at i s)

abbrev pub granted_replies : ℕ → ℕ → State → List Reply
granted_replies i m s = dropped m s ++ replied 0 m (key_for (waiter i s).key (out_at i s)) (waiter i s) ∷ []

abbrev pub Makes : (State → State) → (State → List Reply) → Struct → List ℕ → List ℕ → ℕ → Progress → List ℕ → List ℕ → Type 0
Makes f g st tb l n r tb' l' = Did (f (state_in st tb)) (g (state_in st tb)) l n r.state tb' l' r.n
