-- Texts of the second form by example, computed: a fresh board's of four channels and of eight, and one with every kind of line.
-- Assumes nothing.
use mathlib.Core.Path.{◌≡◌, refl}
use mathlib.Core.List.{[], ◌∷◌}
use lib.ListN.{length}
use Rattle.machine.specs.Text.{bytes, page}
use Rattle.machine.specs.State.{fresh, frees, fresh_on}
use Rattle.machine.specs.Machine.{machine}
use Rattle.display.specs.Display.{names, writes_on, naming}
use Rattle.saved.specs.Saved.{kept, channel_frame, request_frame, span_frame, write_frame, write_frames, key_frame, frames, spelt}
use Rattle.saved.proofs.Examples.{busy}
use Rattle.saved2.specs.Saved2.{number_frame, number_frames, frames2, text2}

fresh-four :
    text2 fresh
    ≡ page
    ("D002"
    ∷ "D804"
    ∷ "D10000000000000000000000"
    ∷ "D10000000000000000000000"
    ∷ "D10000000000000000000000"
    ∷ "D10000000000000000000000"
    ∷ "D70000"
    ∷ "D9000000"
    ∷ "D9010000"
    ∷ "D9020000"
    ∷ "D9030000"
    ∷ [])
unfolding machine bytes page frees names writes_on naming kept channel_frame request_frame span_frame write_frame write_frames key_frame frames spelt number_frame number_frames frames2 text2
fresh-four = refl

fresh-eight :
    text2 (fresh_on 8)
    ≡ page
    ("D002"
    ∷ "D808"
    ∷ "D10000000000000000000000"
    ∷ "D10000000000000000000000"
    ∷ "D10000000000000000000000"
    ∷ "D10000000000000000000000"
    ∷ "D10000000000000000000000"
    ∷ "D10000000000000000000000"
    ∷ "D10000000000000000000000"
    ∷ "D10000000000000000000000"
    ∷ "D70000"
    ∷ "D9000000"
    ∷ "D9010000"
    ∷ "D9020000"
    ∷ "D9030000"
    ∷ "D9040000"
    ∷ "D9050000"
    ∷ "D9060000"
    ∷ "D9070000"
    ∷ [])
unfolding machine bytes page frees names writes_on naming kept channel_frame request_frame span_frame write_frame write_frames key_frame frames spelt number_frame number_frames frames2 text2
fresh-eight = refl

-- channel 0 has two writes; one request names all channels by two combinations, another by one
busy-saved :
    text2 busy
    ≡ page
    ("D002"
    ∷ "D804"
    ∷ "D100010A010001010000C820"
    ∷ "D10000000000000000000000"
    ∷ "D10002FD0001000000000000"
    ∷ "D100010A0100000000000000"
    ∷ "D2070000140102030C"
    ∷ "D22800028000010F"
    ∷ "D306000109"
    ∷ "D305000108"
    ∷ "D421000101"
    ∷ "D50003000200012C40"
    ∷ "D50004000000007C00"
    ∷ "D60001"
    ∷ "D60002"
    ∷ "D60001"
    ∷ "D70002"
    ∷ "D9000202"
    ∷ "D9010002"
    ∷ "D9020002"
    ∷ "D9030002"
    ∷ [])
unfolding machine bytes page busy names writes_on naming kept channel_frame request_frame span_frame write_frame write_frames key_frame frames spelt number_frame number_frames frames2 text2
busy-saved = refl
