-- Saved texts by example, computed: a fresh board's, and one with every kind of line. docs/saved.md tells both in words. Assumes nothing.
use Prim.Native.String.{String}
use mathlib.Core.Path.{◌≡◌, refl}
use mathlib.Core.Bool.{true, false}
use mathlib.Core.List.{List, [], ◌∷◌}
use mathlib.Core.Option.{none, some}
use lib.Dec.{T}
use lib.ListN.{length}
use Rattle.machine_laws.specs.machine.Text.{bytes, page}
use Rattle.machine_laws.specs.machine.State.{State, fresh, free}
use Rattle.machine_laws.specs.machine.Sound.{sound}
use Rattle.machine_laws.specs.machine.Machine.{machine}
use Rattle.saved.specs.Saved.{text, kept, channel_frame, request_frame, span_frame, write_frame, write_frames, key_frame, frames, spelt}

abbrev fresh_text : List String
fresh_text =
    "D001"
    ∷ "D10000000000000000000000"
    ∷ "D10000000000000000000000"
    ∷ "D10000000000000000000000"
    ∷ "D10000000000000000000000"
    ∷ "D70000"
    ∷ []

pub fresh-saved : text fresh ≡ page fresh_text
unfolding machine bytes page text kept channel_frame request_frame span_frame write_frame write_frames key_frame frames spelt
fresh-saved = refl

pub fresh-length : length (text fresh) ≡ 112
unfolding machine text kept channel_frame request_frame span_frame write_frame write_frames key_frame frames spelt
fresh-length = refl

-- channel 0 with two writes, of which the front one is to finish and to be retuned at its cycle's end; channel 2 stopped; two waiting
-- requests; two locks, the later id first; a WAITCYCLE; a key that is open twice
unfoldable pub busy : State
busy =
    record {
      channels =
          record {
            key = 1;
            prec = 138;
            locked = true;
            stopped = false;
            writes =
                record { id = 3; cycles = 2; period = 300; volume = 64; finish = true; pervol = some (200, 32) }
                ∷ record { id = 4; cycles = 0; period = 124; volume = 0; finish = false; pervol = none }
                ∷ [];
          }
          ∷ free
          ∷ record { key = 2; prec = 125; locked = false; stopped = true; writes = [] }
          ∷ record { key = 1; prec = 138; locked = true; stopped = false; writes = [] }
          ∷ [];
      locks = record { id = 6; key = 1; map = 9 } ∷ record { id = 5; key = 1; map = 8 } ∷ [];
      waiters = record { id = 33; key = 1; map = 1 } ∷ [];
      waiting =
          record { id = 7; key = 0; prec = 148; impatient = true; combos = 3 ∷ 12 ∷ [] }
          ∷ record { id = 40; key = 2; prec = 0; impatient = false; combos = 15 ∷ [] }
          ∷ [];
      opens = 1 ∷ 2 ∷ 1 ∷ [];
      last = 2;
    }

pub busy-sound : T (sound busy)
unfolding machine busy
busy-sound = tt

abbrev busy_text : List String
busy_text =
    "D001"
    ∷ "D100010A010001010000C820"
    ∷ "D10000000000000000000000"
    ∷ "D10002FD0001000000000000"
    ∷ "D100010A0100000000000000"
    ∷ "D2070000140102030C"
    ∷ "D22800028000010F"
    ∷ "D306000109"
    ∷ "D305000108"
    ∷ "D421000101"
    ∷ "D50003000200012C40"
    ∷ "D50004000000007C00"
    ∷ "D60001"
    ∷ "D60002"
    ∷ "D60001"
    ∷ "D70002"
    ∷ []

pub busy-saved : text busy ≡ page busy_text
unfolding machine bytes page busy text kept channel_frame request_frame span_frame write_frame write_frames key_frame frames spelt
busy-saved = refl
