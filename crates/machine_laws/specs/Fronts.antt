-- Document 02, #101: who still waits for a cycle after a call waits for the same write as before. Laws: `call_fronts` of
-- proofs/Fronts.antt.
-- Assumes nothing.
--
--   SameFronts x cs ds    each channel that the map x names has the same front write in ds as in cs
--   AllFronts cs ds ws    so it is for each WAITCYCLE of ws, of the channel that it is for
use Rattle.std.specs.Prelude.{ℕ, ◌<◌, ◌≡◌, List, [], ◌∷◌, length}
use Rattle.machine.specs.State.{Channel, Lock}
use Rattle.machine.specs.Commands.{front}
use Rattle.machine.specs.Rule.{channel, Names}

abbrev pub SameFronts : ℕ → List Channel → List Channel → Type 0
SameFronts x cs ds = (i : ℕ) → i < length cs → Names x i → front (channel ds i).writes ≡ front (channel cs i).writes

abbrev pub AllFronts : List Channel → List Channel → List Lock → Type 0
AllFronts cs ds [] = Unit {0}
AllFronts cs ds (w ∷ ws) = SameFronts w.map cs ds × AllFronts cs ds ws
