-- Document 02, #101: what pins the numbers of a write, what is remembered, and who may wait for a cycle. What no line of a log shows is
-- shown of states here, by computation; then the laws of the six bytes.
-- Assumes nothing.
--
--   playing, stopped   key 1 has channel 0 with the writes 2 and 3; the same channel stopped
--   asks n f ms        command n of id 9 with flags f, key 1, map 01 and the bytes ms
--   left s c           the writes of channel 0 after the call c
use Prim.Native.Nat.{ℕ, ◌+◌, ◌*◌}
use mathlib.Core.Path.{◌≡◌, refl}
use mathlib.Core.Bool.{Bool, true, false}
use mathlib.Core.List.{List, [], ◌∷◌}
use mathlib.Core.Option.{none, some}
use Rattle.machine.specs.State.{Write, Channel, Lock, State, Call, Op, EVENT, CYCLE_ENDED, COMMAND, free}
use Rattle.machine.specs.Maps.{at}
use Rattle.machine.specs.Commands.{cycles_in, period_in, volume_in}
use Rattle.machine.specs.Sound.{sound}
use Rattle.machine.specs.Call.{call}
use Rattle.machine.specs.Walks.{plays, cuts, tunes, both, chan, lock, stands}
use Rattle.machine.specs.Machine.{machine}

-- ---- the states and the calls

abbrev pub on : Bool → List Write → List Lock → State
on b ws vs = stands (chan 1 128 false b ws ∷ free ∷ free ∷ free ∷ []) [] vs [] (1 ∷ []) 1

abbrev pub two : List Write
two = plays 2 3 200 10 ∷ plays 3 1 300 20 ∷ []

abbrev pub asks : Op → ℕ → List ℕ → Call
asks op f ms = record { op = op; desk = 0; id = 9; flags = f; map = 1; prec = 128; key = 1; combos = ms; room = 64 }

abbrev pub left : State → Call → List Write
left s c = (at 1 (call s c).next.channels).writes

-- ---- "A write now carries a cycle count (0 is endless), period and volume"

-- 258 cycles, period 65,536, volume 64; and none of them
pub numbers_kept : (left (on false [] []) (asks (COMMAND 3) 0 (1 ∷ 2 ∷ 1 ∷ 0 ∷ 0 ∷ 64 ∷ [])) ≡ plays 9 258 65536 64 ∷ [])
    × (left (on false [] []) (asks (COMMAND 3) 0 []) ≡ plays 9 1 124 64 ∷ [])
unfolding machine
numbers_kept = (refl, refl)

-- ---- "PERVOL replaces the last two in the front write"

-- of the front write alone, whatever its count says
pub pervol_in_front : left (on false two []) (asks (COMMAND 12) 0 (255 ∷ 255 ∷ 0 ∷ 1 ∷ 0 ∷ 7 ∷ [])) ≡ plays 2 3 256 7 ∷ plays 3 1 300 20 ∷ []
unfolding machine
pervol_in_front = refl

-- "n 0 means 1, 124 and 64": so PERVOL sets 124 and 64
pub pervol_of_none : left (on false two []) (asks (COMMAND 12) 0 []) ≡ plays 2 3 124 64 ∷ plays 3 1 300 20 ∷ []
unfolding machine
pervol_of_none = refl

-- "a matching idle channel succeeds too", and a stopped one is idle
pub pervol-stopped : (left (on true two []) (asks (COMMAND 12) 0 []) ≡ two) × (left (on true two []) (asks (COMMAND 12) 32 []) ≡ two)
unfolding machine
pervol-stopped = (refl, refl)

-- ---- "A synced FINISH or PERVOL is remembered until the cycle ends, the last of each standing"

pub pervol-later : left (on false two []) (asks (COMMAND 12) 32 (0 ∷ 0 ∷ 0 ∷ 1 ∷ 0 ∷ 7 ∷ [])) ≡ tunes 2 3 200 10 256 7 ∷ plays 3 1 300 20 ∷ []
unfolding machine
pervol-later = refl

pub last_stands : left (on false (tunes 2 3 200 10 256 7 ∷ []) []) (asks (COMMAND 12) 32 (0 ∷ 0 ∷ 0 ∷ 2 ∷ 0 ∷ 8 ∷ [])) ≡ tunes 2 3 200 10 512 8 ∷ []
unfolding machine
last_stands = refl

-- a PERVOL that is not synced acts at once and leaves the remembered one
pub pervol-beside : left (on false (tunes 2 3 200 10 256 7 ∷ []) []) (asks (COMMAND 12) 0 (0 ∷ 0 ∷ 0 ∷ 2 ∷ 0 ∷ 8 ∷ [])) ≡ tunes 2 3 512 8 256 7 ∷ []
unfolding machine
pervol-beside = refl

pub finish-later : (left (on false two []) (asks (COMMAND 11) 32 []) ≡ cuts 2 3 200 10 ∷ plays 3 1 300 20 ∷ [])
    × (left (on false (tunes 2 3 200 10 256 7 ∷ []) []) (asks (COMMAND 11) 32 []) ≡ both 2 3 200 10 256 7 ∷ [])
    × (left (on true two []) (asks (COMMAND 11) 32 []) ≡ two)
unfolding machine
finish-later = (refl, refl, refl)

-- "dropped when that write ends": nothing passes to the next write
pub event_forgets : left (on false (both 2 3 200 10 256 7 ∷ plays 3 1 300 20 ∷ []) []) (asks (EVENT CYCLE_ENDED) 0 []) ≡ plays 3 1 300 20 ∷ []
unfolding machine
event_forgets = refl

pub finish-forgets : left (on false (both 2 3 200 10 256 7 ∷ plays 3 1 300 20 ∷ []) []) (asks (COMMAND 11) 0 []) ≡ plays 3 1 300 20 ∷ []
unfolding machine
finish-forgets = refl

-- ---- "Sound adds"

-- "a WAITCYCLE (a fourth place for an id) has the key of its channel, which has a write"; its channel may be stopped
pub waiters-sound : (sound (on false two (lock 9 1 1 ∷ [])) ≡ true)
    × (sound (on true two (lock 9 1 1 ∷ lock 8 1 1 ∷ [])) ≡ true)
    × (sound (on false [] (lock 9 1 1 ∷ [])) ≡ false)
    × (sound (on false two (lock 9 2 1 ∷ [])) ≡ false)
    × (sound (on false two (lock 9 1 3 ∷ [])) ≡ false)
    × (sound (on false two (lock 9 1 0 ∷ [])) ≡ false)
    × (sound (on false two (lock 9 1 2 ∷ [])) ≡ false)
    × (sound (on false two (lock 9 1 16 ∷ [])) ≡ false)
    × (sound (on false two (lock 3 1 1 ∷ [])) ≡ false)
unfolding machine
waiters-sound = (refl, refl, refl, refl, refl, refl, refl, refl, refl)

-- "stored numbers are in range"
pub numbers-sound : (sound (on false (plays 2 65535 124 0 ∷ plays 3 0 65536 64 ∷ []) []) ≡ true)
    × (sound (on false (plays 2 65536 124 0 ∷ []) []) ≡ false)
    × (sound (on false (plays 2 1 123 0 ∷ []) []) ≡ false)
    × (sound (on false (plays 2 1 124 0 ∷ plays 3 1 65537 0 ∷ []) []) ≡ false)
    × (sound (on false (plays 2 1 124 65 ∷ []) []) ≡ false)
    × (sound (on false (tunes 2 1 124 64 123 0 ∷ []) []) ≡ false)
    × (sound (on false (tunes 2 1 124 64 124 65 ∷ []) []) ≡ false)
unfolding machine
numbers-sound = (refl, refl, refl, refl, refl, refl, refl)

-- "nothing is remembered without a write": it waits for the cycle of the front one, and no other write has anything to remember
pub memory_sound : (sound (on false (both 2 1 124 64 65536 0 ∷ plays 3 1 124 64 ∷ []) []) ≡ true)
    × (sound (on false (plays 2 1 124 64 ∷ cuts 3 1 124 64 ∷ []) []) ≡ false)
    × (sound (on false (plays 2 1 124 64 ∷ tunes 3 1 124 64 124 64 ∷ []) []) ≡ false)
unfolding machine
memory_sound = (refl, refl, refl)

-- ---- the six bytes

-- "two, three and one, high byte first"
pub six-bytes : (a b c d e f : ℕ)
    → (cycles_in (a ∷ b ∷ c ∷ d ∷ e ∷ f ∷ []) ≡ 256 * a + b) × (period_in (a ∷ b ∷ c ∷ d ∷ e ∷ f ∷ []) ≡ 65536 * c + (256 * d + e))
    × (volume_in (a ∷ b ∷ c ∷ d ∷ e ∷ f ∷ []) ≡ f)
unfolding cycles_in period_in volume_in
six-bytes a b c d e f = (refl, refl, refl)
