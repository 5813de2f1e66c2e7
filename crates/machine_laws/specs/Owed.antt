-- Document 01: "A command finished at once is also replied if QUICK (flag 1) is clear and it wasn't refused with 1 to 5. An outstanding
-- one is replied when it ends." #109: 8 is "treated like" 4.
-- Assumes nothing.
--
--   quiet          the refusals after which the reply list is as before
--   brought c a    the id of a command that is replied at once, or is outstanding
--   owed o c a     the ids that an operation brings: a command's own, unless it is refused so
use Rattle.std.specs.Prelude.{ℕ, Bool, true, false, not, ◌||◌, List, [], ◌∷◌, if◌then◌else◌}
use Rattle.machine.specs.Numbers.{quick, UNSOUND, NOTOPEN, INUSE, BADID, NOROOM, OTHERDESK}
use Rattle.machine.specs.Lists.{among}
use Rattle.machine.specs.State.{Answer, Call, Op, OPEN, CLOSE, ABORT, EVENT, COMMAND}

abbrev pub quiet : List ℕ
quiet = UNSOUND ∷ NOTOPEN ∷ INUSE ∷ BADID ∷ NOROOM ∷ OTHERDESK ∷ []

unfoldable pub brought : Call → Answer → List ℕ
brought c a = if a.outstanding || not (quick c.flags) then c.id ∷ [] else []

unfoldable pub owed : Op → Call → Answer → List ℕ
owed OPEN c a = []
owed CLOSE c a = []
owed ABORT c a = []
owed (EVENT v) c a = []
owed (COMMAND n) c a = if among a.error quiet then [] else brought c a
