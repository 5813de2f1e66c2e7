-- Other flag bits than QUICK, NOWAIT and SYNCCYCLE have no meaning here. proofs/Flags.antt says so of every call.
-- Assumes nothing.
--
--   with_flags f c    the call with the flags f
use Rattle.std.specs.Prelude.{ℕ}
use Rattle.machine.specs.State.{Call}

abbrev pub with_flags : ℕ → Call → Call
with_flags f c =
    record { op = c.op; desk = c.desk; id = c.id; flags = f; map = c.map; prec = c.prec; key = c.key; combos = c.combos; room = c.room }
