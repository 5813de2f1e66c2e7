-- How far a number of a display moves.
-- Assumes nothing.
--
--   shifted b m l   the byte b with m added and l taken away, modulo 256
use Rattle.std.specs.Prelude.{ℕ, ◌+◌, ◌-◌, ◌%◌}

abbrev pub shifted : ℕ → ℕ → ℕ → ℕ
shifted b m l = (b + m + 256 - l) % 256
