-- The tests of form that several operations share, and the number of a refusal.
-- Assumes nothing.
--
--   number_of f             the number of a refusal of the machine; 0 is none
--   number e, number_in r   the number of a refusal of the code, and of what a function of the code answers; 0 is none
--   high bound m           a map that names more than the board's channels, whose maps are those below the bound
--   used tb i              the entry of id i begins with a command
--   list_tests bound ms     a list of combinations: more than 16, one too high, each with its number
--   event_tests bound m     a map that is too high, with its number
--   wrong_numbers ms        cycles, period and volume of another length than 0 or 6, or out of range; number_tests ms: with its number
use Rattle.std.specs.Prelude.{ℕ, Bool, not, ◌&&◌, ◌||◌, List, [], ◌∷◌, Result, Ok, Err, eqb, leb, ltb, length, get_or}
use Rattle.memory.specs.Splice.{block}
use Rattle.store.specs.machine.Numbers.{OPENFAIL, NOCMD, BADLENGTH, BADADDRESS, NOTOPEN, INUSE, BADID, NOROOM, OTHERDESK, COMBOS}
use Rattle.store.specs.machine.Lists.{any}
use Rattle.store.specs.machine.Commands.{period_in, volume_in}
use Rattle.store.specs.machine.Sound.{sound_tone}
use Rattle.store.specs.machine.Refusals.{Refusal as RefusalM, accepted, refused}
use Rattle.steps.specs.declared.Refusal.{Refusal}
use Rattle.steps.specs.declared.Refusal.TheVariants.{NoRoom, BadId, OtherDesk, InUse, NotOpen, NoCmd, BadLength, BadAddress, OpenFail}

abbrev pub number_of : RefusalM → ℕ
number_of accepted = 0
number_of (refused e) = e

abbrev pub number : Refusal → ℕ
number NoRoom = NOROOM
number BadId = BADID
number OtherDesk = OTHERDESK
number InUse = INUSE
number NotOpen = NOTOPEN
number NoCmd = NOCMD
number BadLength = BADLENGTH
number BadAddress = BADADDRESS
number OpenFail = OPENFAIL

abbrev pub number_in : Result (Unit {0}) Refusal → ℕ
number_in (Ok u) = 0
number_in (Err e) = number e

abbrev pub high : ℕ → ℕ → Bool
high bound m = not (ltb m bound)

abbrev pub used : List ℕ → ℕ → Bool
used tb i = not (eqb (get_or (block 23 tb i) 0 0) 0)

abbrev pub list_tests : ℕ → List ℕ → List (Bool × ℕ)
list_tests bound ms = (ltb COMBOS (length ms), BADLENGTH) ∷ (any (high bound) ms, BADADDRESS) ∷ []

abbrev pub event_tests : ℕ → ℕ → List (Bool × ℕ)
event_tests bound m = (high bound m, BADADDRESS) ∷ []

abbrev pub wrong_numbers : List ℕ → Bool
wrong_numbers ms = not (eqb (length ms) 0 || eqb (length ms) 6) || not (sound_tone (period_in ms) (volume_in ms))

abbrev pub number_tests : List ℕ → List (Bool × ℕ)
number_tests ms = (wrong_numbers ms, BADLENGTH) ∷ []
