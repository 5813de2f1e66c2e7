-- The words in which an outstanding WAITCYCLE is promised. Assumes nothing.
--
--   waiter_of r m        the WAITCYCLE of a request, for the channel whose bit is m
--   awaited_by r m s     the state with it, the youngest
use Rattle.std.specs.Prelude.{ℕ, [], ◌∷◌, ◌++◌}
use Rattle.answers.specs.machine.State.{Lock, State as StateM, with_waiters}
use Rattle.answers.specs.declared.Request.{Request}

abbrev pub waiter_of : Request → ℕ → Lock
waiter_of r m = record { id = r.id; key = r.key; map = m }

abbrev pub awaited_by : Request → ℕ → StateM → StateM
awaited_by r m s = with_waiters (s.waiters ++ waiter_of r m ∷ []) s
