-- Document 01, "The log": how a number, a mark and a precedence stand in bytes. "precedence (two's complement), key (two bytes, high
-- first)". The saved text, the wall display and the image of a state spell them so too. proofs/InBytes.antt computes each.
-- Assumes nothing.
--
--   two_bytes k    a number up to 65,535 as two bytes, the high one first
--   mark_of b      a mark as a byte: 1 or 0
--   signed p      a stored precedence (itself plus 128) in two's complement, and one in two's complement as it is stored
use Rattle.std.specs.Prelude.{ℕ, ◌+◌, ◌/◌, ◌%◌, Bool, List, [], ◌∷◌, if◌then◌else◌}

abbrev pub two_bytes : ℕ → List ℕ
two_bytes k = (k / 256) ∷ (k % 256) ∷ []

abbrev pub mark_of : Bool → ℕ
mark_of b = if b then 1 else 0

abbrev pub signed : ℕ → ℕ
signed p = (p + 128) % 256
