-- The display after any calls: numbers that agreed with a count agree after each, so from a fresh device on they are the counts; and the
-- looks never exceed 2,080.
-- Assumes nothing.
--
--   Orderly cs   each call's numbers fit their bytes
use Prim.Native.Nat.{ℕ, ◌≤◌}
use mathlib.Core.Path.{◌≡◌, refl}
use mathlib.Core.List.{List, [], ◌∷◌}
use native.Mathlib.Omega.{arith}
use lib.Dec.{T}
use lib.ListN.{length, take}
use Rattle.widening.specs.machine.State.{State, Call, fresh_on}
use Rattle.widening.specs.machine.Sound.{sound}
use Rattle.widening.specs.machine.Call.{call}
use Rattle.widening.proofs.machine_laws.KeepingCalls.{call-sound}
use Rattle.display.specs.Display.{NUMBERS, DISPLAY, blank, numbers, looks_of, displayed}
use Rattle.display.specs.Runs.{after_calls, shown_after, Orderly}
use Rattle.display.proofs.Looks.{looked_few}
use Rattle.display.proofs.Display.{displayed-length, displayed_agrees, displayed-looks, blank_agrees}

pub shown_agrees : (s : State) (cs : List Call) (d : List ℕ) → length d ≡ DISPLAY → T (sound s) → Orderly cs → take NUMBERS d ≡ numbers s
    → take NUMBERS (shown_after s cs d) ≡ numbers (after_calls s cs)
unfolding after_calls shown_after
shown_agrees s [] d l a h e = e
shown_agrees s (c ∷ cs) d l a h e =
    shown_agrees (call s c).next cs (displayed s c d) (displayed-length s c d l) (call-sound s c h.0.0 h.0.1 a) h.1
    (displayed_agrees s c d l a h.0.0 h.0.1 e)

pub shown-looks : (s : State) (cs : List Call) (d : List ℕ) → length d ≡ DISPLAY → looks_of d ≤ 2080 → looks_of (shown_after s cs d) ≤ 2080
unfolding shown_after
shown-looks s [] d l h = h
shown-looks s (c ∷ cs) d l h =
    shown-looks (call s c).next cs (displayed s c d) (displayed-length s c d l)
    (omega (arith, displayed-looks s c d l, looked_few s c (looks_of d) h))

-- "on a fresh device they are 0"
pub fresh-shown : (n : ℕ) (cs : List Call) → T (sound (fresh_on n)) → Orderly cs
    → take NUMBERS (shown_after (fresh_on n) cs blank) ≡ numbers (after_calls (fresh_on n) cs)
fresh-shown n cs a h = shown_agrees (fresh_on n) cs blank refl a h (blank_agrees n)

pub fresh-looks : (n : ℕ) (cs : List Call) → looks_of (shown_after (fresh_on n) cs blank) ≤ 2080
fresh-looks n cs = shown-looks (fresh_on n) cs blank refl (omega arith)
