-- The numbers of a display as frames, whatever they are. proofs/NumberLines.antt shows that numbers that were counted are those of crate
-- `saved2`.
-- Assumes nothing.
--
--   number_line d i     the frame of channel i: byte 2i of the display is its writes, byte 2i + 1 the requests that name it
--   number_lines n d    those of the first n channels, in order
use Rattle.std.specs.Prelude.{ℕ, zero, suc, ◌+◌, ◌*◌, List, [], ◌∷◌, ◌++◌, get_or}

-- #112: "the two display numbers"
unfoldable pub number_line : List ℕ → ℕ → List ℕ
number_line d i = 0xD9 ∷ i ∷ get_or d (2 * i) 0 ∷ get_or d (2 * i + 1) 0 ∷ []

unfoldable pub number_lines : ℕ → List ℕ → List (List ℕ)
number_lines zero d = []
number_lines (suc n) d = number_lines n d ++ (number_line d n ∷ [])
