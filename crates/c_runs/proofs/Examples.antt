-- What the K party sees of two calls, computed: one that is answered, with a reply to an id of its own in each half of the list and one to
-- another's, and the same call without room for its answer, whose bytes look as if it had been answered too. A wrong definition of what
-- the K party sees, or of which calls are its own, is told here.
-- Assumes nothing.
use mathlib.Core.Path.{◌≡◌, refl}
use mathlib.Core.Bool.{◌||◌}
use mathlib.Core.List.{[], ◌∷◌, ◌++◌}
use mathlib.Core.Option.{none, some}
use lib.Dec.{eqb}
use lib.ListN.{replicate}
use Rattle.machine.specs.State.{COMMAND}
use Rattle.machine.specs.Machine.{machine}
use Rattle.two_runs.specs.TwoRuns.{Party, claim}
use Rattle.code_runs.specs.CodeRuns.{code_claim}
use Rattle.c_runs.specs.CRuns.{Turn, ours, others, own_calls, spoken, own_records, bytes_claim}

-- K is 1, and K has the ids 9 and 40
abbrev party : Party
party = record { key = 1; floor = 0; mine = λ i. eqb i 9 || eqb i 40 }

-- STOP id 9 map 1 key 1
abbrev answered : Turn
answered =
    record {
      desk = 0;
      op = 6;
      id = 9;
      flags = 0;
      map = 1;
      prec = 0;
      key = 1;
      combos = [];
      wall = replicate 18 0;
      lent = replicate 384 0;
      room = replicate 8 0;
      n = 3;
      state = [];
      table = [];
      display = replicate 18 0;
      list = (5 ∷ 3 ∷ 254 ∷ 0 ∷ 0 ∷ 2 ∷ 9 ∷ 6 ∷ 0 ∷ 1 ∷ 0 ∷ 1 ∷ replicate 180 0) ++ (40 ∷ 14 ∷ 254 ∷ 0 ∷ 0 ∷ 1 ∷ replicate 186 0);
      answer = 0 ∷ 0 ∷ 1 ∷ 0 ∷ 1 ∷ 255 ∷ 2 ∷ 1 ∷ [];
    }

-- with nine bytes for the answer
abbrev missed : Turn
missed =
    record {
      desk = 0;
      op = 6;
      id = 9;
      flags = 0;
      map = 1;
      prec = 0;
      key = 1;
      combos = [];
      wall = replicate 18 0;
      lent = answered.list;
      room = answered.answer ++ 0 ∷ [];
      n = 255;
      state = [];
      table = [];
      display = replicate 18 0;
      list = answered.list;
      answer = answered.answer ++ 0 ∷ [];
    }

pub told : (spoken answered ≡ 0 ∷ 0 ∷ 1 ∷ 0 ∷ 1 ∷ 255 ∷ []) × (spoken missed ≡ 255 ∷ [])
unfolding bytes_claim
told = (refl, refl)

pub reported : (own_records party answered ≡ (9 ∷ 6 ∷ 0 ∷ 1 ∷ 0 ∷ 1 ∷ []) ∷ (40 ∷ 14 ∷ 254 ∷ 0 ∷ 0 ∷ 1 ∷ []) ∷ [])
    × (own_records party missed ≡ [])
unfolding machine code_claim bytes_claim
reported = (refl, refl)

-- its own call, and that there was one without room
pub own : own_calls (ours answered ∷ others answered ∷ others missed ∷ ours missed ∷ [])
    ≡ some (record { op = COMMAND 6; desk = 0; id = 9; flags = 0; map = 1; prec = 128; key = 1; combos = []; room = 64 }) ∷ none ∷ []
unfolding machine claim bytes_claim
own = refl
