-- Document 02, #107, "The log over a slow line": a call with a fragment.
-- Assumes nothing.
--
--   grown p bs, line_with p bs     the started line with a fragment behind it: how many bytes stand, and the bytes
--   line_fed p bs, port_fed p bs    the line that ends in the fragment, if one does; the port after it
--   Feeds                         the promise of `feed`
use Rattle.std.specs.Prelude.{ℕ, ◌+◌, List, length, take, if◌then◌else◌}
use Rattle.std.proofs.Math.Option.{Option, none, some}
use Rattle.memory.specs.Splice.{splice}
use Rattle.gathering.specs.Lumps.{ended, used, kept}
use Rattle.telling.specs.port.Port.{started_in, line_in, port_of}
use Rattle.telling.specs.Telling.{Ported}

abbrev pub grown : List ℕ → List ℕ → ℕ
grown p bs = started_in p + length (kept (started_in p) bs)

abbrev pub line_with : List ℕ → List ℕ → List ℕ
line_with p bs = splice (line_in p) (started_in p) (kept (started_in p) bs)

-- "The service port delivers the log in fragments of any length"
unfoldable pub line_fed : List ℕ → List ℕ → Option (List ℕ)
line_fed p bs = if ended bs then some (take (grown p bs) (line_with p bs)) else none

unfoldable pub port_fed : List ℕ → List ℕ → List ℕ
port_fed p bs = port_of (if ended bs then 0 else grown p bs) (line_with p bs)

-- ---- the promise

abbrev pub Feeds : (bs p st tb dp out : List ℕ) → ℕ → ℕ → ℕ → (p' st' tb' dp' out' : List ℕ) → Type 0
Feeds bs p st tb dp out e u n p' st' tb' dp' out' = Ported (line_fed p bs) (port_fed p bs) (used bs) p st tb dp out e u n p' st' tb' dp' out'
