-- Document 02, #107, "The log over a slow line": which bytes are a port, and why a call on one is refused.
-- Assumes nothing.
--
--   is_port p           529 bytes, each below 256, of which at most 527 stand
--   Proper p           the same, with a name for each part of it
--   BADPORT            1, for a display of another size too
--   number_of why       the number of a refusal: 1, or 12
--   refusal_for, refusal p shown room   why a call with this port and so much display and room is refused, or 0
use Rattle.std.specs.Prelude.{ℕ, ◌≤◌, Bool, true, false, ◌&&◌, List, ◌≡◌, eqb, leb, T, length}
use Rattle.machine.specs.Lists.{all}
use Rattle.machine.specs.Numbers.{TOOSMALL}
use Rattle.display.specs.Display.{DISPLAY}
use Rattle.image.specs.Image.{is_byte}
use Rattle.gathering.specs.Lumps.{LINE}
use Rattle.port.specs.sizes.Sizes.{PORT, ROOM}
use Rattle.port.specs.Port.{started_in}
use Rattle.admitting.specs.declared.Refusal.{Refusal}
use Rattle.admitting.specs.declared.Refusal.TheVariants.{NoPort, TooSmall}

-- "memory stays at one line"
unfoldable pub is_port : List ℕ → Bool
is_port p = eqb (length p) PORT && (leb (started_in p) LINE && all is_byte p)

abbrev pub BADPORT : ℕ
BADPORT = 1

abbrev pub number_of : Refusal → ℕ
number_of NoPort = BADPORT
number_of TooSmall = TOOSMALL

-- by whether it is a port with a display, and whether the room is enough for one line's output: no port comes first
abbrev pub refusal_for : Bool → Bool → ℕ
refusal_for true true = 0
refusal_for true false = TOOSMALL
refusal_for false true = BADPORT
refusal_for false false = BADPORT

unfoldable pub refusal : List ℕ → ℕ → ℕ → ℕ
refusal p shown room = refusal_for (is_port p && eqb shown DISPLAY) (leb ROOM room)

-- what `is_port` tests
pub record Proper (p : List ℕ) : Type 0 where
  pub long : length p ≡ PORT
  pub few : started_in p ≤ LINE
  pub bytes : T (all is_byte p)
