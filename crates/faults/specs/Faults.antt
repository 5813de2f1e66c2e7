-- Document 02, #106 and #112: why a text is refused. The first of its lines that is no frame of its kind, for a message; whether the text is
-- accepted is not decided by this.
-- Assumes nothing.
--
--   told n              a number of these, as the code hands it back: 0 is none
--   length_of f         how many bytes a frame of this kind has, by its first byte, of the kinds that both forms have; a waiting request says
--                      itself how many combinations it has. 0: there is no such kind
--   length_in v f       the same in a text of the form v: the second has the board's line and those of the numbers
--   frame_of v k f      whether these bytes may stand behind k lines: D001 or D002 behind none, a frame of some kind behind any other number
--   lacking k p        what a text that ends with the bytes p behind its last LF lacks: their LF, or nothing
--   fault_from v k p t  the number of the first line that is none, in a text t whose line behind k lines has begun with the bytes p; 0: there
--                      is none. A line without LF is none
--   fault v t          the same of a whole text; a text of no bytes lacks its first line
use Rattle.std.specs.Prelude.{ℕ, zero, suc, ◌+◌, Bool, ◌&&◌, List, [], ◌∷◌, ◌++◌, eqb, ltb, length, get_or, Option, Some, None, if◌then◌else◌}
use Rattle.machine.specs.Log.{LF}
use Rattle.reading.specs.hex_lines.HexLines.{octets_of}

unfoldable pub told : ℕ → Option ℕ
told zero = None
told (suc n) = Some (suc n)

unfoldable pub length_of : List ℕ → ℕ
length_of f =
    let first = get_or f 0 0 in
    if eqb first 0xD1 then 12
    else if eqb first 0xD2 then 7 + get_or f 6 0
    else if eqb first 0xD3 then 5
    else if eqb first 0xD4 then 5
    else if eqb first 0xD5 then 9
    else if eqb first 0xD6 then 3
    else if eqb first 0xD7 then 3
    else 0

unfoldable pub length_in : ℕ → List ℕ → ℕ
length_in v f =
    let first = get_or f 0 0 in
    if eqb v 2 && eqb first 0xD8 then 2
    else if eqb v 2 && eqb first 0xD9 then 4
    else length_of f

unfoldable pub frame_of : ℕ → ℕ → List ℕ → Bool
frame_of v k f =
    if eqb k 0 then eqb (length f) 2 && (eqb (get_or f 0 0) 0xD0 && eqb (get_or f 1 0) v)
    else ltb 0 (length f) && eqb (length f) (length_in v f)

abbrev pub lacking : ℕ → List ℕ → ℕ
lacking k [] = 0
lacking k (b ∷ p) = k + 1

unfoldable pub fault_from : ℕ → ℕ → List ℕ → List ℕ → ℕ
fault_from v k p [] = lacking k p
fault_from v k p (b ∷ t) =
    if eqb b LF then (if frame_of v k (octets_of p) then fault_from v (k + 1) [] t else k + 1)
    else fault_from v k (p ++ (b ∷ [])) t

unfoldable pub fault : ℕ → List ℕ → ℕ
fault v [] = 1
fault v (b ∷ t) = fault_from v 0 [] (b ∷ t)
