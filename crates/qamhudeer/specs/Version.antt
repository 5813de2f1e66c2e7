-- The version of the library, as a number. The header has the same, and a test compares the two.
-- Assumes nothing.
--
--   VERSION    10,000 times the first number, 100 times the second, and the third
use Rattle.std.specs.Prelude.{ℕ}

abbrev pub VERSION : ℕ
VERSION = 70300
