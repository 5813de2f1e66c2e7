-- A board has as many channels after a call as before. Laws: proofs/Board.antt.
-- Assumes nothing.
--
--   Wide s t    the state t has as many channels as s
use Rattle.std.specs.Prelude.{◌≡◌, length}
use Rattle.machine.specs.State.{State}

-- a state with as many channels
abbrev pub Wide : State → State → Type 0
Wide s t = length t.channels ≡ length s.channels
