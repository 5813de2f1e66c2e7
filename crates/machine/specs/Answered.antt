-- Document 01, "The log": what an answer may look like, whichever it is.
-- Assumes nothing.
--
--   LastByte o a         the last byte of the operation's answer
--   MapOf o a            CLOSE and ABORT answer no map
--   Answered o c s a     all that is said of an answer to the call c, an operation o, on the state s
use Rattle.std.specs.Prelude.{ℕ, ◌≡◌, true, ◌⊎◌}
use Rattle.machine.specs.Numbers.{CMD_READ, NONE}
use Rattle.machine.specs.State.{State, Answer, Call, Op, OPEN, CLOSE, ABORT, EVENT, COMMAND}
use Rattle.machine.specs.Granting.{new_key}
use Rattle.machine.specs.Commands.{pending}

-- "The last byte is FF, except, at error 0, READ's id and ABORT's 01 or 00."
unfoldable pub LastByte : Op → Answer → Type 0
LastByte OPEN a = a.extra ≡ NONE
LastByte CLOSE a = a.extra ≡ NONE
LastByte (EVENT v) a = a.extra ≡ NONE
LastByte ABORT a = (a.extra ≡ NONE) ⊎ ((a.error ≡ 0) × ((a.extra ≡ 0) ⊎ (a.extra ≡ 1)))
LastByte (COMMAND n) a = (a.extra ≡ NONE) ⊎ ((n ≡ CMD_READ) × (a.error ≡ 0))

-- "CLOSE and ABORT answer map 0."
unfoldable pub MapOf : Op → Answer → Type 0
MapOf OPEN a = Unit {0}
MapOf CLOSE a = a.map ≡ 0
MapOf ABORT a = a.map ≡ 0
MapOf (EVENT v) a = Unit {0}
MapOf (COMMAND n) a = Unit {0}

pub record Answered (o : Op) (c : Call) (s : State) (a : Answer) : Type 0 where
  -- "A1 has error 0, map 0, the request's key"
  pub outstanding : a.outstanding ≡ true → a ≡ pending c.key
  -- "An answer's key is the one given, or the new one."
  pub key : (a.key ≡ c.key) ⊎ ((c.key ≡ 0) × (a.error ≡ 0) × (a.key ≡ new_key s))
  pub last : LastByte o a
  pub map : MapOf o a
