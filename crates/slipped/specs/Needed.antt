-- Which premises of the second assurance are needed: what a row of the tables of proofs/Needed.antt says.
-- Assumes nothing.
--
--   tells s cs    what calls, made in turn from s, get: error, map, key, last byte, then the ids replied to
--   Row, row      a state, a command and a call behind it; the premises; what the call gets without the command, and with it
--   Told rs       so it is of each row
use Rattle.std.specs.Prelude.{ℕ, ◌≡◌, Bool, List, [], ◌∷◌, map}
use Rattle.machine.specs.State.{State, Call}
use Rattle.machine.specs.Call.{call}
use Rattle.slipped.specs.Slipped.{outcomes}

abbrev pub tells : State → List Call → List (List ℕ)
tells s cs = map (λ o. o.answer.error ∷ o.answer.map ∷ o.answer.key ∷ o.answer.extra ∷ map (λ r. r.id) o.replies) (outcomes s cs)

pub record Row : Type 0 where
  pub state : State
  pub slipped : Call
  pub next : Call
  pub holds : List Bool
  pub without : List ℕ
  pub with : List ℕ

abbrev pub row : State → Call → Call → List Bool → List ℕ → List ℕ → Row
row s c n bs xs ys = record { state = s; slipped = c; next = n; holds = bs; without = xs; with = ys }

abbrev pub Told : List Row → Type 0
Told rs =
    (map (λ r. tells r.state (r.next ∷ [])) rs ≡ map (λ r. r.without ∷ []) rs)
    × (map (λ r. tells (call r.state r.slipped).next (r.next ∷ [])) rs ≡ map (λ r. r.with ∷ []) rs)
