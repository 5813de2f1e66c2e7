-- Document 02, #107, "The log over a slow line": the call at the end of the log.
-- Assumes nothing.
--
--   line_last p, port_last p        the last line, if one has started; the port after the end: nothing stands
--   Ends                          the promise of `feed_end`
use Rattle.std.specs.Prelude.{ℕ, List, eqb, take, if◌then◌else◌}
use Rattle.std.proofs.Math.Option.{Option, none, some}
use Rattle.telling.specs.port.Port.{started_in, line_in, port_of}
use Rattle.telling.specs.Telling.{Ported}

-- "a last line without LF"
unfoldable pub line_last : List ℕ → Option (List ℕ)
line_last p = if eqb (started_in p) 0 then none else some (take (started_in p) (line_in p))

abbrev pub port_last : List ℕ → List ℕ
port_last p = port_of 0 (line_in p)

-- ---- the promise

abbrev pub Ends : (p st tb dp out : List ℕ) → ℕ → ℕ → (p' st' tb' dp' out' : List ℕ) → Type 0
Ends p st tb dp out e n p' st' tb' dp' out' = Ported (line_last p) (port_last p) 0 p st tb dp out e 0 n p' st' tb' dp' out'
