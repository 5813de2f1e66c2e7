-- Document 02, #109: demand 3 for a desk. "Keys may still be passed between desks by hand; if they are not, demand 3 holds for a desk
-- with "its half" for "its request ids", the half still holding all that are outstanding under K and otherwise only idle ones."
-- proofs/Desk.antt proves it as `desk_sees_the_same`.
-- Assumes nothing.
--
--   of_desk d k f          the party of desk d: its key K, the precedence P, and its half for its request ids
--   from_other d o c       the call is not desk d's: a command or ABORT names another desk, or an id that is not its desk's and gets 8; OPEN,
--                         CLOSE and the events depend on none
--   spares p o c s        the call does not use K, whatever id it names; what gets 8 uses nothing
--   ByOtherDesk d p s c   what is asked of a call of the others
--   KeepsApart d p s xs   each call of a run is of the desk's, or so. The desk's are those of demand 3, and those that name an id of the
--                         other half: their answer, 8, is seen too
--   RunOfDesk d p s xs    all that is asked of a run
--   Demand3Desk          two runs with the same calls of the desk show it the same
use Rattle.std.specs.Prelude.{ℕ, ◌≡◌, Bool, true, not, ◌||◌, ◌⊎◌, List, [], ◌∷◌, T, eqb}
use Rattle.machine_laws.specs.machine.Lists.{all}
use Rattle.machine_laws.specs.machine.State.{State, Call, Op, OPEN, CLOSE, ABORT, EVENT, COMMAND}
use Rattle.machine_laws.specs.machine.Desks.{desk_of, foreign}
use Rattle.machine_laws.specs.machine.Kinds.{kind}
use Rattle.machine_laws.specs.machine.Call.{call}
use Rattle.two_runs.specs.TwoRuns.{Party, Start, Step, our, their, on_k, peeks, modest, ByK, calls, lends, in_bytes, own, seen}
use Rattle.two_runs.specs.Core.{misses}

-- "its half" for "its request ids"
abbrev pub of_desk : ℕ → ℕ → ℕ → Party
of_desk d k f = record { key = k; floor = f; mine = λ i. eqb (desk_of i) d }

-- "Every call but the event names its desk"; OPEN and CLOSE carry no id. What gets 8 may be counted with the others' calls, whosever it
-- is: nothing comes of it.
unfoldable pub from_other : ℕ → Op → Call → Bool
from_other d OPEN c = true
from_other d CLOSE c = true
from_other d ABORT c = foreign c || not (eqb c.desk d)
from_other d (EVENT v) c = true
from_other d (COMMAND n) c = foreign c || not (eqb c.desk d)

-- "the others never use K"; that they never use those ids is the arbiter's to see to: "gets 8"
unfoldable pub spares : Party → Op → Call → State → Bool
spares p OPEN c s = not (eqb c.key p.key)
spares p CLOSE c s = not (eqb c.key p.key)
spares p ABORT c s = true
spares p (EVENT v) c s = not (on_k p c s)
spares p (COMMAND n) c s = foreign c || (peeks (kind n) || not (eqb c.key p.key))

pub record ByOtherDesk (d : ℕ) (p : Party) (s : State) (c : Call) : Type 0 where
  pub other : T (from_other d c.op c)
  pub apart : T (spares p c.op c s)
  pub low : T (modest p c.op c)

abbrev pub KeepsApart : ℕ → Party → State → List Step → Type 0
KeepsApart d p s [] = Unit {0}
KeepsApart d p s (our c ∷ xs) = (ByK p s c ⊎ T (misses c.op c)) × KeepsApart d p (call s c).next xs
KeepsApart d p s (their c ∷ xs) = ByOtherDesk d p s c × KeepsApart d p (call s c).next xs

pub record RunOfDesk (d : ℕ) (p : Party) (s : State) (xs : List Step) : Type 0 where
  pub keeps : KeepsApart d p s xs
  pub full : T (all lends (calls xs))
  pub fits : T (all in_bytes (calls xs))

abbrev pub Demand3Desk : Type 0
Demand3Desk =
    (d k f : ℕ) (s : State) (xs ys : List Step) → Start (of_desk d k f) s → RunOfDesk d (of_desk d k f) s xs → RunOfDesk d (of_desk d k f) s ys
    → own xs ≡ own ys → seen (of_desk d k f) s xs ≡ seen (of_desk d k f) s ys
