-- Document 01: of the reply list lent a call reads only whether it has 64 records. Laws: proofs/Rooms.antt.
-- Assumes nothing.
--
--   lent n c    the call with a list of n records
use Rattle.std.specs.Prelude.{ℕ}
use Rattle.machine.specs.State.{Call}

-- the call with a list of n records lent
abbrev pub lent : ℕ → Call → Call
lent n c =
    record { op = c.op; desk = c.desk; id = c.id; flags = c.flags; map = c.map; prec = c.prec; key = c.key; combos = c.combos; room = n }
