-- Document 02, #110: "Loading a saved state recounts once and sets the looks to 0."
-- Assumes nothing.
--
--   counted s    the display of a state that was loaded
use Rattle.std.specs.Prelude.{ℕ, List, ◌++◌}
use Rattle.widening.specs.machine.State.{State}
use Rattle.widening.specs.machine.InBytes.{two_bytes}
use Rattle.display.specs.Display.{numbers}

abbrev pub counted : State → List ℕ
counted s = numbers s ++ two_bytes 0
