-- Document 01, "Numbers a caller can get back": which numbers are refusals, and what each leaves as before. Laws: `refused_same`,
-- `refused-mute`, `refused-heard`, `seventeen_refused`, `high-map-refused` of proofs/Refusals.antt.
-- Assumes nothing.
--
--   refusals          the numbers after which the state is as before
--   mute, heard       those after which the reply list is too; those with which a command is replied
--   own_reply o c e    a command's own reply with the error e
--   Unmoved s o       an OPEN that is answered -11 moved nothing
--   Lists o           OPEN and ALLOCATE, which read combinations
--   earlier o c s     the tests before those of the combinations, each with its number
use Rattle.std.specs.Prelude.{ℕ, ◌≡◌, Bool, not, List, [], ◌∷◌, eqb, ltb, length, if◌then◌else◌}
use Rattle.machine.specs.Numbers.{quick, neg, NOCMD, ALLOCFAILED, UNSOUND, NOTOPEN, INUSE, BADID, OTHERDESK, NOROOM, REQUESTS, ADCMD_ALLOCATE}
use Rattle.machine.specs.Lists.{among}
use Rattle.machine.specs.State.{State, Reply, Outcome, Call, Op, OPEN, CLOSE, ABORT, EVENT, COMMAND}
use Rattle.machine.specs.Desks.{foreign}
use Rattle.machine.specs.Sound.{sound, ids}
use Rattle.machine.specs.Kinds.{kind, unknown}

-- the numbers after which "the state is as before"; of these, those after which the reply list is too, and the others
abbrev pub refusals : List ℕ
refusals = 1 ∷ 2 ∷ 3 ∷ 4 ∷ 5 ∷ 8 ∷ neg 1 ∷ neg 3 ∷ neg 4 ∷ neg 5 ∷ []

abbrev pub mute : List ℕ
mute = 1 ∷ 2 ∷ 3 ∷ 4 ∷ 5 ∷ 8 ∷ []

abbrev pub heard : List ℕ
heard = neg 1 ∷ neg 3 ∷ neg 4 ∷ neg 5 ∷ []

-- a command's own reply with an error: none if QUICK is set, and none to what is no command
abbrev pub own_reply : Op → Call → ℕ → List Reply
own_reply OPEN c e = []
own_reply CLOSE c e = []
own_reply ABORT c e = []
own_reply (EVENT v) c e = []
own_reply (COMMAND n) c e =
    if quick c.flags then [] else record { id = c.id; command = n; error = e; map = 0; key = c.key } ∷ []

-- "failing or held gives -11, replies no lock and leaves the state unchanged"
abbrev pub Unmoved : State → Outcome → Type 0
Unmoved s o = o.answer.error ≡ ALLOCFAILED → (o.next ≡ s) × (o.replies ≡ [])

-- the operations that read combinations
pub data Lists : Op → Type 0 where
  by_open : Lists OPEN
  by_allocate : Lists (COMMAND ADCMD_ALLOCATE)

-- the tests before those of the combinations
abbrev pub earlier : Op → Call → State → List (Bool × ℕ)
earlier OPEN c s = (not (sound s), UNSOUND) ∷ (ltb c.room REQUESTS, NOROOM) ∷ []
earlier CLOSE c s = []
earlier ABORT c s = []
earlier (EVENT v) c s = []
earlier (COMMAND n) c s =
    (not (sound s), UNSOUND)
    ∷ (ltb c.room REQUESTS, NOROOM)
    ∷ (ltb 63 c.id, BADID)
    ∷ (foreign c, OTHERDESK)
    ∷ (among c.id (ids s), INUSE)
    ∷ (eqb (length s.opens) 0, NOTOPEN)
    ∷ (unknown (kind n), NOCMD)
    ∷ []
