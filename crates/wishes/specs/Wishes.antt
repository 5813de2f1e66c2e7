-- Document 02, #108, "A list maker for stereo": the maps that meet a wish.
-- Assumes nothing.
--
--   named m c            1 where the map names channel c, else 0
--   lefts m, rights m    how many left and right channels a map names
--   meets l r m          the map is one of the board's sixteen and has l left and r right channels
use Rattle.std.specs.Prelude.{ℕ, ◌+◌, ◌/◌, ◌%◌, ◌^◌, Bool, ◌&&◌, eqb, ltb}

unfoldable pub named : ℕ → ℕ → ℕ
named m c = m / 2 ^ c % 2

-- "channels 0 and 3 sound left, 1 and 2 right"
unfoldable pub lefts : ℕ → ℕ
lefts m = named m 0 + named m 3

unfoldable pub rights : ℕ → ℕ
rights m = named m 1 + named m 2

unfoldable pub meets : ℕ → ℕ → ℕ → Bool
meets l r m = ltb m 16 && eqb (lefts m) l && eqb (rights m) r
