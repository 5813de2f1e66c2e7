-- Document 01: READ and WRITE take the lowest bit of a map. Laws: proofs/Maps.antt.
-- Assumes nothing.
--
--   NamesFirst m i    channel i is the first that the map m names
use Rattle.std.specs.Prelude.{ℕ, ◌<◌}
use Rattle.machine.specs.Rule.{Names}

-- m names channel i, and none before it
abbrev pub NamesFirst : ℕ → ℕ → Type 0
NamesFirst m i = Names m i × ((j : ℕ) → j < i → Names m j → ⊥)
