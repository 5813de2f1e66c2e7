-- Document 01, "Settling": "After every call, except one answered 1 to 5, -1, -3, -4 or -5 and an OPEN answered -11, walk from the
-- head." Which calls settle, by their answers; 8 is "treated like" 4 (#109).
-- Assumes nothing.
--
--   unsettled          the numbers after which nothing settles
--   opens o            the operation is OPEN
--   settles s c        the call c in the state s settles
use Rattle.std.specs.Prelude.{ℕ, Bool, true, false, not, ◌&&◌, List, [], ◌∷◌, eqb}
use Rattle.machine.specs.Numbers.{neg, ALLOCFAILED}
use Rattle.machine.specs.Lists.{among}
use Rattle.machine.specs.State.{State, Call, Op, OPEN, CLOSE, ABORT, EVENT, COMMAND}
use Rattle.machine.specs.Call.{call}

abbrev pub unsettled : List ℕ
unsettled = 1 ∷ 2 ∷ 3 ∷ 4 ∷ 5 ∷ 8 ∷ neg 1 ∷ neg 3 ∷ neg 4 ∷ neg 5 ∷ []

unfoldable pub opens : Op → Bool
opens OPEN = true
opens CLOSE = false
opens ABORT = false
opens (EVENT e) = false
opens (COMMAND n) = false

unfoldable pub settles : State → Call → Bool
settles s c =
    let e = (call s c).answer.error in
    not (among e unsettled) && not (opens c.op && eqb e ALLOCFAILED)
