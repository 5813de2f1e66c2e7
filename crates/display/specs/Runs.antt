-- Any calls, one after another: document 02, #113, "over any calls from a fresh device".
-- Assumes nothing.
--
--   after_calls s cs, shown_after s cs d   the state after calls; the display after them, where it was d before
--   Orderly cs                           each call's numbers fit their bytes, as those of every log and of every call from C do
use Rattle.std.specs.Prelude.{ℕ, List, [], ◌∷◌, T}
use Rattle.widening.specs.machine.State.{State, Call}
use Rattle.widening.specs.machine.Call.{call, in_range}
use Rattle.display.specs.Display.{displayed}
use Rattle.widening.specs.machine_laws.Keeping.{Counted}

unfoldable pub after_calls : State → List Call → State
after_calls s [] = s
after_calls s (c ∷ cs) = after_calls (call s c).next cs

unfoldable pub shown_after : State → List Call → List ℕ → List ℕ
shown_after s [] d = d
shown_after s (c ∷ cs) d = shown_after (call s c).next cs (displayed s c d)

abbrev pub Orderly : List Call → Type 0
Orderly [] = Unit {0}
Orderly (c ∷ cs) = (T (in_range c) × Counted c.op c) × Orderly cs
