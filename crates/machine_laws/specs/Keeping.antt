-- What a sound state and a call are asked for, so that the state after it is sound. Laws: proofs/Keeping.antt, `call-sound` of
-- proofs/KeepingCalls.antt.
-- Assumes nothing.
--
--   lock_ids ls     the ids of locks, or of WAITCYCLEs; wait_ids rs: those of waiting requests
--   Counted o c    the count of cycles that a WRITE carries fits its two bytes
use Rattle.std.specs.Prelude.{ℕ, ◌≤◌, List, map, ◌≡◌}
use Rattle.machine.specs.State.{Lock, Request, Call, Op, COMMAND}
use Rattle.machine.specs.Numbers.{CYCLES, CMD_WRITE}
use Rattle.machine.specs.Commands.{cycles_in}

abbrev pub lock_ids : List Lock → List ℕ
lock_ids ls = map (λ l. l.id) ls

abbrev pub wait_ids : List Request → List ℕ
wait_ids rs = map (λ r. r.id) rs

-- #101: "In a frame they are the bytes after n: two, three and one": a WRITE's count of cycles fits its two bytes
abbrev pub Counted : Op → Call → Type 0
Counted o c = o ≡ COMMAND CMD_WRITE → cycles_in c.combos ≤ CYCLES
