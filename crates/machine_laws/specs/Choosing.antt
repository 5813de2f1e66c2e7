-- Document 01, "How a combination is chosen": what no choice takes. A request takes channels of strictly lower precedence alone.
-- Laws: `look_spares` of proofs/Choosing.antt.
-- Assumes nothing.
--
--   strong P c       the channel is allocated at precedence P or more
--   Spares P cs l    what was chosen, held or granted, names no channel that is strong
use Rattle.std.specs.Prelude.{ℕ, Bool, not, ◌&&◌, List, T, leb}
use Rattle.machine.specs.State.{Channel, is_free}
use Rattle.machine.specs.Maps.{named}
use Rattle.machine.specs.Choosing.{Look, fails, held, grants}

-- a channel that a request of precedence at most P cannot take: allocated, of precedence P or more
unfoldable pub strong : ℕ → Channel → Bool
strong P c = not (is_free c) && leb P c.prec

-- what is chosen names no strong channel
abbrev pub Spares : ℕ → List Channel → Look → Type 0
Spares P cs fails = Unit {0}
Spares P cs (held m) = T (named (λ c. not (strong P c)) m cs)
Spares P cs (grants m) = T (named (λ c. not (strong P c)) m cs)
