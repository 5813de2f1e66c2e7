-- Document 02, #113: "any command other than ALLOCATE whose id is valid and idle, whose desk may use it, and whose key is on no channel".
-- Laws: `moves-nothing` of proofs/OnNoChannel.antt.
-- Assumes nothing.
--
--   Absent k cs    the key is on no channel; key 0 never is
--   Harmless o     a command, and not ALLOCATE
use Rattle.std.specs.Prelude.{ℕ, not, List, T}
use Rattle.machine_laws.specs.machine.Lists.{all}
use Rattle.machine_laws.specs.machine.State.{ABORT, CLOSE, COMMAND, Channel, EVENT, OPEN, Op}
use Rattle.machine_laws.specs.machine.Commands.{matches}
use Rattle.machine_laws.specs.machine.Kinds.{allocates, kind}

abbrev pub Absent : ℕ → List Channel → Type 0
Absent k cs = T (all (λ c. not (matches k c)) cs)

abbrev pub Harmless : Op → Type 0
Harmless OPEN = ⊥
Harmless CLOSE = ⊥
Harmless ABORT = ⊥
Harmless (EVENT v) = ⊥
Harmless (COMMAND n) = T (not (allocates (kind n)))
