-- What the end of a cycle makes of a write: of its numbers' bytes, and in the machine's words.
-- Assumes nothing.
--
--   turn_in b          whether a write with the bytes b is cut, is over or goes on; turn_of w: the same of the machine's write
--   applied_in b       the bytes with the PERVOL that they remember applied
--   counted_in b       the bytes with one cycle less
--   next_in b          the bytes with which the write goes on; next_of w: the machine's write
--   turn_replies t m k w   what is replied to the write w, by its turn; the channel's bit is m, its key k
--   turn_queue t w ws      the queue after it, of which w was in front and ws is the rest
-- proofs/Laws.antt shows that the two agree, and that they are the machine's `cycled` and `last_replies`.
use Rattle.std.specs.Prelude.{ℕ, ◌-◌, ◌&&◌, List, [], ◌∷◌, eqb, get_or, set, if◌then◌else◌}
use Rattle.machine.specs.Numbers.{ABORTED, CMD_WRITE}
use Rattle.machine.specs.State.{Write, Reply}
use Rattle.machine.specs.Commands.{toned, counted_down}
use Rattle.cycles.specs.declared.Turn.{Turn}
use Rattle.cycles.specs.declared.Turn.TheVariants.{Cut, Over, On}

unfoldable pub turn_in : List ℕ → Turn
turn_in b = if eqb (get_or b 6 0) 1 then Cut else if eqb (get_or b 0 0) 0 && eqb (get_or b 1 0) 1 then Over else On

unfoldable pub applied_in : List ℕ → List ℕ
applied_in b =
    if eqb (get_or b 7 0) 1 then
    set (set (set (set (set (set (set (set (set b 2 (get_or b 8 0)) 3 (get_or b 9 0)) 4 (get_or b 10 0)) 5 (get_or b 11 0)) 7 0) 8 0) 9 0) 10 0) 11 0
    else b

unfoldable pub counted_in : List ℕ → List ℕ
counted_in b =
    if eqb (get_or b 1 0) 0 then (if eqb (get_or b 0 0) 0 then b else set (set b 0 (get_or b 0 0 - 1)) 1 255)
    else set b 1 (get_or b 1 0 - 1)

abbrev pub next_in : List ℕ → List ℕ
next_in b = counted_in (applied_in b)

unfoldable pub turn_of : Write → Turn
turn_of w = if w.finish then Cut else if eqb w.cycles 1 then Over else On

abbrev pub next_of : Write → Write
next_of w = counted_down (toned w.pervol w)

abbrev pub turn_replies : Turn → ℕ → ℕ → Write → List Reply
turn_replies Cut m k w = record { id = w.id; command = CMD_WRITE; error = ABORTED; map = 0; key = k } ∷ []
turn_replies Over m k w = record { id = w.id; command = CMD_WRITE; error = 0; map = m; key = k } ∷ []
turn_replies On m k w = []

abbrev pub turn_queue : Turn → Write → List Write → List Write
turn_queue Cut w ws = ws
turn_queue Over w ws = ws
turn_queue On w ws = next_of w ∷ ws
