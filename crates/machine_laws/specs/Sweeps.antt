-- Document 01, "The other commands": "For each selected channel whose key matches", and #101's FINISH and PERVOL.
-- Assumes nothing.
--
--   sweeps k      the command does the same to every channel selected, and answers the map of those that match
use Rattle.std.specs.Prelude.{Bool, true, false}
use Rattle.machine.specs.Kinds.{Kind, RESET, READ, WRITE, UPDATE, CLEAR, STOP, START, FLUSH, FREE, SETPREC, FINISH, PERVOL, LOCK, WAITCYCLE, ALLOCATE, UNKNOWN}

unfoldable pub sweeps : Kind → Bool
sweeps RESET = true
sweeps READ = false
sweeps WRITE = false
sweeps UPDATE = true
sweeps CLEAR = true
sweeps STOP = true
sweeps START = true
sweeps FLUSH = true
sweeps FREE = true
sweeps SETPREC = true
sweeps FINISH = true
sweeps PERVOL = true
sweeps LOCK = false
sweeps WAITCYCLE = false
sweeps ALLOCATE = false
sweeps UNKNOWN = false
