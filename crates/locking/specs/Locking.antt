-- The words in which LOCK is promised.
-- Assumes nothing.
--
--   lock_of r       the lock that a request asks for; locked_by r s: the state with it outstanding
use Rattle.std.specs.Prelude.{[], ◌∷◌, ◌++◌}
use Rattle.answers.specs.machine.State.{Lock, State as StateM, with_channels, with_locks}
use Rattle.answers.specs.machine.Maps.{change}
use Rattle.answers.specs.machine.Commands.{set_lock}
use Rattle.answers.specs.declared.Request.{Request}

abbrev pub lock_of : Request → Lock
lock_of r = record { id = r.id; key = r.key; map = r.map }

abbrev pub locked_by : Request → StateM → StateM
locked_by r s = with_locks (s.locks ++ lock_of r ∷ []) (with_channels (change set_lock r.map s.channels) s)
