-- Document 02, #107, "The log over a slow line": what stands of a line between two fragments, as 529 bytes that a caller keeps.
-- Assumes nothing.
--
--   started_in p        how many bytes stand of the line: the first two bytes, the high one first
--   line_in p           the bytes of the line, those that do not stand included: the other 527
--   port_of n l         the port of a line of which n bytes stand
use Rattle.std.specs.Prelude.{ℕ, List, ◌++◌, drop}
use Rattle.machine.specs.InBytes.{two_bytes}
use Rattle.image.specs.Image.{key_at}

abbrev pub started_in : List ℕ → ℕ
started_in p = key_at p 0

abbrev pub line_in : List ℕ → List ℕ
line_in p = drop 2 p

abbrev pub port_of : ℕ → List ℕ → List ℕ
port_of n l = two_bytes n ++ l
