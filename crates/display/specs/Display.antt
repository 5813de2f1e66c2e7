-- Document 02, #110, "The wall display": the numbers that stand beside the state, the list of who waits, and both as lines of a log.
-- Of a display 18 bytes are lent: byte 2i has the writes of channel i, byte 2i + 1 the waiting requests that name it, for i from 0 to
-- 7; then the looks of the last settling, high byte first. They are no part of the state, and no call is refused for them.
-- Assumes nothing.
--
--   NUMBERS, DISPLAY       the 16 bytes of the two numbers of eight channels; all 18
--   blank                  the display of a fresh device
--   names i r              the waiting request names channel i
--   writes_on i s           how many writes channel i has
--   naming i s             how many waiting requests name channel i
--   number j s             the count at place j of the 16; numbers_from n j s: n of them, from place j on
--   numbers s              all 16
--   corrected s t j bs     the numbers bs, which stand from place j on, after the state s became t
--   looks_of d              the looks that a display has
--   displayed s c d        the display d after the call c in the state s
--   displayed_by s c d      the same after a line of a log, given its call, if it is one
--   holds l, record_of cs r the request is held; its record: id, precedence (two's complement), held or not, desk
--   records cs rs          the records of requests, one behind the other
--   load_line s d           E0, for each channel of the board its two numbers, then the looks
--   request_lines cs rs     E1 and its record for each request
--   display_lines s d       the lines of a display in a state
--   Bytes bs               each number is a byte
use Rattle.std.specs.Prelude.{ℕ, zero, suc, ◌+◌, ◌*◌, ◌/◌, ◌%◌, ◌^◌, ◌<◌, Bool, true, false, List, [], ◌∷◌, ◌++◌, length, get_or, take, drop, replicate, if◌then◌else◌}
use Rattle.std.proofs.Math.Option.{Option, none, some}
use Rattle.widening.specs.machine.Lists.{any, keep}
use Rattle.widening.specs.machine.State.{Channel, Request, State, Call}
use Rattle.widening.specs.machine.Maps.{odd, half}
use Rattle.widening.specs.machine.Desks.{desk_of}
use Rattle.widening.specs.machine.Choosing.{Look, fails, held, grants, look}
use Rattle.widening.specs.machine.Rule.{channel}
use Rattle.widening.specs.machine.Call.{call}
use Rattle.display.specs.Looks.{looked}
use Rattle.widening.specs.machine.Log.{line}
use Rattle.widening.specs.machine.InBytes.{two_bytes}

abbrev pub NUMBERS : ℕ
NUMBERS = 16

abbrev pub DISPLAY : ℕ
DISPLAY = 18

-- "on a fresh device they are 0"
abbrev pub blank : List ℕ
blank = replicate DISPLAY 0

-- ---- the two numbers

-- "waiting allocations naming it": a request counts once for a channel, however many of its combinations name it
unfoldable pub names : ℕ → Request → Bool
names i r = any (λ m. odd (m / 2 ^ i)) r.combos

-- "each channel's number of writes"
unfoldable pub writes_on : ℕ → State → ℕ
writes_on i s = length (channel s.channels i).writes

-- "the number of waiting allocations naming it"
unfoldable pub naming : ℕ → State → ℕ
naming i s = length (keep (names i) s.waiting)

unfoldable pub number : ℕ → State → ℕ
number j s = if odd j then naming (half j) s else writes_on (half j) s

unfoldable pub numbers_from : ℕ → ℕ → State → List ℕ
numbers_from zero j s = []
numbers_from (suc n) j s = number j s ∷ numbers_from n (suc j) s

abbrev pub numbers : State → List ℕ
numbers s = numbers_from NUMBERS 0 s

-- "corrected at each call and never recounted": by as much as the count has changed, modulo 256. To add 255 times a number is to take it
-- away once.
unfoldable pub corrected : State → State → ℕ → List ℕ → List ℕ
corrected s t j [] = []
corrected s t j (b ∷ bs) = ((b + number j t + 255 * number j s) % 256) ∷ corrected s t (suc j) bs

-- ---- the looks, and a call

abbrev pub looks_of : List ℕ → ℕ
looks_of d = 256 * get_or d 16 0 + get_or d 17 0

unfoldable pub displayed : State → Call → List ℕ → List ℕ
displayed s c d = corrected s (call s c).next 0 (take NUMBERS d) ++ two_bytes (looked s c (looks_of d))

unfoldable pub displayed_by : State → Option Call → List ℕ → List ℕ
displayed_by s none d = d
displayed_by s (some c) d = displayed s c d

-- ---- who waits

-- "held or not": by a choice made now, in the present state
unfoldable pub holds : Look → Bool
holds fails = false
holds (held m) = true
holds (grants m) = false

-- "(id, precedence, held or not, desk)". A stored precedence is the precedence plus 128.
unfoldable pub record_of : List Channel → Request → List ℕ
record_of cs r =
    r.id ∷ ((r.prec + 128) % 256) ∷ (if holds (look r.prec r.combos cs) then 1 else 0) ∷ desk_of r.id ∷ []

-- "one for each waiting request .. to be filled in order"
unfoldable pub records : List Channel → List Request → List ℕ
records cs [] = []
records cs (r ∷ rs) = record_of cs r ++ records cs rs

-- ---- in a log

unfoldable pub load_line : State → List ℕ → List ℕ
load_line s d = line (0xE0 ∷ take (2 * length s.channels) d ++ drop NUMBERS d)

unfoldable pub request_lines : List Channel → List Request → List ℕ
request_lines cs [] = []
request_lines cs (r ∷ rs) = line (0xE1 ∷ record_of cs r) ++ request_lines cs rs

unfoldable pub display_lines : State → List ℕ → List ℕ
display_lines s d = load_line s d ++ request_lines s.channels s.waiting

-- ---- bytes

abbrev pub Bytes : List ℕ → Type 0
Bytes bs = (i : ℕ) → get_or bs i 0 < 256
