-- Document 01, "Numbers a caller can get back": which steps of the order concern each operation, and what a call must meet to be
-- accepted. "Order: 1, 5, 4, 3, 2, -3, -4, -5, then -1 for OPEN, .. Steps that don't concern a call are skipped: OPEN, CLOSE and
-- the event carry no id; OPEN, ABORT and the event don't need an open device; ABORT isn't refused for an outstanding id."
-- Document 02, #105: "OPEN at 32 entries gets -1"; "CLOSE .. gets 2 if there is none". #101: for WRITE and PERVOL -4, "checked after
-- -5". #109: "A command or ABORT naming an id of the other half gets 8, right after the check for 4".
-- Assumes nothing.
--
--   steps o         the numbers with which the operation may be refused, in their order
--   order o c s     the same, each with what it asks of the call
--   FailsFirst ts e the first of such steps that is not met has the number e
--   NoneOf ts       no test of a list is met
--   Passes o c s    what an accepted call meets, without a walk over tests
--   Listed, Placed, Mapped c s   at most 16 combinations, each on the board; each so; the map so
--   Reads n c s     what a command reads besides: ALLOCATE its combinations, any other its map
--   Carried c       a cycle count, period and volume of length 0 or 6, in range; Carries n c: where the command carries them
use Rattle.std.specs.Prelude.{ℕ, ◌^◌, ◌≤◌, ◌<◌, ◌≡◌, Bool, not, ◌⊎◌, List, [], ◌∷◌, T, ltb, length}
use Rattle.machine.specs.Numbers.{OPENFAIL, NOCMD, BADLENGTH, BADADDRESS, UNSOUND, NOTOPEN, INUSE, BADID, OTHERDESK, NOROOM, REQUESTS, COMBOS, ENTRIES, CMD_WRITE, ADCMD_PERVOL, ADCMD_ALLOCATE}
use Rattle.machine.specs.Lists.{among, all}
use Rattle.machine.specs.State.{State, Call, Op, OPEN, CLOSE, ABORT, EVENT, COMMAND}
use Rattle.machine.specs.Desks.{desk_of}
use Rattle.machine.specs.Commands.{period_in, volume_in}
use Rattle.machine.specs.Sound.{sound, ids}
use Rattle.machine.specs.Bytes.{listed}

unfoldable pub steps : Op → List ℕ
steps OPEN = UNSOUND ∷ NOROOM ∷ BADLENGTH ∷ BADADDRESS ∷ OPENFAIL ∷ []
steps CLOSE = UNSOUND ∷ NOROOM ∷ NOTOPEN ∷ []
steps ABORT = UNSOUND ∷ NOROOM ∷ BADID ∷ OTHERDESK ∷ []
steps (EVENT v) = UNSOUND ∷ NOROOM ∷ BADADDRESS ∷ []
steps (COMMAND n) = UNSOUND ∷ NOROOM ∷ BADID ∷ OTHERDESK ∷ INUSE ∷ NOTOPEN ∷ NOCMD ∷ BADLENGTH ∷ BADADDRESS ∷ BADLENGTH ∷ []

-- each combination is on the board
abbrev pub Placed : Call → State → Type 0
Placed c s = T (all (λ m. ltb m (2 ^ length s.channels)) c.combos)

-- not "more than 16 combinations", each on the board
abbrev pub Listed : Call → State → Type 0
Listed c s = (length c.combos ≤ COMBOS) × Placed c s

abbrev pub Mapped : Call → State → Type 0
Mapped c s = c.map < 2 ^ length s.channels

-- -4: "OPEN or ALLOCATE"; -5: "OPEN or ALLOCATE: a combination above 15; other commands and the event: a map above 15"
abbrev pub Reads : ℕ → Call → State → Type 0
Reads n c s = (n ≡ ADCMD_ALLOCATE → Listed c s) × ((n ≡ ADCMD_ALLOCATE → ⊥) → Mapped c s)

-- #101: "For WRITE and PERVOL any other n, a period outside 124 to 65,536 or a volume above 64 gets -4"
abbrev pub Carried : Call → Type 0
Carried c =
    ((length c.combos ≡ 0) ⊎ (length c.combos ≡ 6))
    × (124 ≤ period_in c.combos) × (period_in c.combos ≤ 65536) × (volume_in c.combos ≤ 64)

abbrev pub Carries : ℕ → Call → Type 0
Carries n c = (n ≡ CMD_WRITE) ⊎ (n ≡ ADCMD_PERVOL) → Carried c

unfoldable pub Passes : Op → Call → State → Type 0
Passes OPEN c s = T (sound s) × (REQUESTS ≤ c.room) × Listed c s × (length s.opens < ENTRIES)
Passes CLOSE c s = T (sound s) × (REQUESTS ≤ c.room) × T (among c.key s.opens)
Passes ABORT c s = T (sound s) × (REQUESTS ≤ c.room) × (c.id ≤ 63) × (desk_of c.id ≡ c.desk)
Passes (EVENT v) c s = T (sound s) × (REQUESTS ≤ c.room) × Mapped c s
Passes (COMMAND n) c s =
    T (sound s) × (REQUESTS ≤ c.room) × (c.id ≤ 63) × (desk_of c.id ≡ c.desk) × T (not (among c.id (ids s))) × (0 < length s.opens) × T (among n listed)
    × Reads n c s × Carries n c

-- Document 01: "Order: 1, 5, 4, 3, 2, -3, -4, -5, then -1 for OPEN"; #109: 8 "right after the check for 4"; #101: -4 "checked after -5"
unfoldable pub order : Op → Call → State → List (Type 0 × ℕ)
order OPEN c s =
    (T (sound s), UNSOUND)
    ∷ (REQUESTS ≤ c.room, NOROOM)
    ∷ (length c.combos ≤ COMBOS, BADLENGTH)
    ∷ (Placed c s, BADADDRESS)
    ∷ (length s.opens < ENTRIES, OPENFAIL)
    ∷ []
order CLOSE c s = (T (sound s), UNSOUND) ∷ (REQUESTS ≤ c.room, NOROOM) ∷ (T (among c.key s.opens), NOTOPEN) ∷ []
order ABORT c s =
    (T (sound s), UNSOUND) ∷ (REQUESTS ≤ c.room, NOROOM) ∷ (c.id ≤ 63, BADID) ∷ (desk_of c.id ≡ c.desk, OTHERDESK) ∷ []
order (EVENT v) c s = (T (sound s), UNSOUND) ∷ (REQUESTS ≤ c.room, NOROOM) ∷ (Mapped c s, BADADDRESS) ∷ []
order (COMMAND n) c s =
    (T (sound s), UNSOUND)
    ∷ (REQUESTS ≤ c.room, NOROOM)
    ∷ (c.id ≤ 63, BADID)
    ∷ (desk_of c.id ≡ c.desk, OTHERDESK)
    ∷ (T (not (among c.id (ids s))), INUSE)
    ∷ (0 < length s.opens, NOTOPEN)
    ∷ (T (among n listed), NOCMD)
    ∷ ((n ≡ ADCMD_ALLOCATE → length c.combos ≤ COMBOS), BADLENGTH)
    ∷ ((n ≡ ADCMD_ALLOCATE → Placed c s) × ((n ≡ ADCMD_ALLOCATE → ⊥) → Mapped c s), BADADDRESS)
    ∷ (Carries n c, BADLENGTH)
    ∷ []

unfoldable pub FailsFirst : List (Type 0 × ℕ) → ℕ → Type 0
FailsFirst [] e = ⊥
FailsFirst (t ∷ ts) e = ((t.1 ≡ e) × (t.0 → ⊥)) ⊎ (t.0 × FailsFirst ts e)

-- a list of tests, each with its number, none of which is met
abbrev pub NoneOf : List (Bool × ℕ) → Type 0
NoneOf [] = Unit {0}
NoneOf (t ∷ ts) = T (not t.0) × NoneOf ts
