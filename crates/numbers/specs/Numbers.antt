-- The numbers of a write, as the code tests them in their twelve bytes. proofs/Laws.antt says what the test comes to.
-- Assumes nothing.
--
--   carried i ms        the write i that carries the numbers ms: what the machine's WRITE makes
--   pervol_kept b        PERVOL is remembered with numbers in range, or not and they are 0
--   sound_numbers f b    the bytes of a sound write; where it is not in front (f), of one that remembers nothing
--   Bytes b             the numbers of which others are made are bytes
--   Told i front b      the test passes exactly where the bytes are those of a sound write
use Rattle.std.specs.Prelude.{ℕ, ◌<◌, Bool, false, ◌&&◌, ◌||◌, List, ◌≡◌, eqb, leb, T, get_or, if◌then◌else◌}
use Rattle.std.proofs.Math.Option.{none}
use Rattle.machine.specs.State.{Write}
use Rattle.machine.specs.Commands.{cycles_in, period_in, volume_in}
use Rattle.machine.specs.Sound.{sound_tone, sound_write, forgets}
use Rattle.table.specs.Entry.{tone_at, number_bytes, numbers_in}

abbrev pub carried : ℕ → List ℕ → Write
carried i ms = record { id = i; cycles = cycles_in ms; period = period_in ms; volume = volume_in ms; finish = false; pervol = none }

unfoldable pub pervol_kept : List ℕ → Bool
pervol_kept b =
    if eqb (get_or b 7 0) 1 then
    sound_tone (tone_at b 8) (get_or b 11 0)
    else
    eqb (get_or b 7 0) 0 && (eqb (get_or b 8 0) 0 && (eqb (get_or b 9 0) 0 && (eqb (get_or b 10 0) 0 && eqb (get_or b 11 0) 0)))

unfoldable pub sound_numbers : Bool → List ℕ → Bool
sound_numbers front b =
    sound_tone (tone_at b 2) (get_or b 5 0)
    && (leb (get_or b 6 0) 1 && (pervol_kept b && (front || (eqb (get_or b 6 0) 0 && eqb (get_or b 7 0) 0))))

-- what their types say of the bytes of which numbers are made
pub record Bytes (b : List ℕ) : Type 0 where
  pub first : get_or b 0 0 < 256
  pub second : get_or b 1 0 < 256
  pub fourth : get_or b 3 0 < 256
  pub fifth : get_or b 4 0 < 256
  pub tenth : get_or b 9 0 < 256
  pub eleventh : get_or b 10 0 < 256

-- twelve bytes pass exactly where they are those of the write that can be read from them, and that write is sound
abbrev pub Told : ℕ → Bool → List ℕ → Type 0
Told i front b =
    (Bytes b → T (sound_numbers front b) → (b ≡ number_bytes (numbers_in i b)) × T (sound_write (numbers_in i b)) × T (front || forgets (numbers_in i b)))
    × (b ≡ number_bytes (numbers_in i b) → T (sound_write (numbers_in i b)) → T (front || forgets (numbers_in i b)) → T (sound_numbers front b))
