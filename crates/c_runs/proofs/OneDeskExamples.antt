-- What a desk gets of a call, computed: the two states of crates/one_desk, proofs/Witness.antt, and the ALLOCATE by which desk A steals
-- three channels, as a call of a program in C. Desk A gets an answer of six bytes, its number 6 and six records in both states; the
-- other number is 6 in the one and 2 in the other, and the result 12 and 8, so neither could be promised. A wrong definition of what a
-- desk gets is told here. Assumes nothing.
use mathlib.Core.Path.{◌≡◌, refl}
use mathlib.Core.List.{[], ◌∷◌}
use lib.ListN.{get_or}
use Rattle.memory.specs.Splice.{splice}
use Rattle.machine.specs.Desks.{DESK_A, DESK_B}
use Rattle.machine.specs.Machine.{machine}
use Rattle.boundary.specs.handed.Handed.{answer_bytes}
use Rattle.code_runs.specs.CodeRuns.{code_claim}
use Rattle.one_desk.proofs.Witness.{busy, quiet}
use Rattle.c_runs.specs.CRuns.{bytes_claim}
use Rattle.c_runs.specs.Desk.{half}
use Rattle.c_runs.specs.OneDesk.{Gets, gets}
use Rattle.c_runs.specs.Made.{Ask, made}

-- ALLOCATE id 8 key 0 at 12 for the channels 0, 1 and 2
abbrev pub steals : Ask
steals = record { desk = 0; op = 32; id = 8; flags = 0; map = 0; prec = 12; key = 0; combos = 7 ∷ [] }

-- the grant, and the two writes, the two who waited for their cycles, the grant again and the lock
abbrev got_by_a : Gets
got_by_a =
    record {
      answer = 0 ∷ 0 ∷ 7 ∷ 0 ∷ 5 ∷ 255 ∷ [];
      number = 6;
      records =
          (2 ∷ 3 ∷ 254 ∷ 0 ∷ 0 ∷ 1 ∷ [])
          ∷ (3 ∷ 3 ∷ 254 ∷ 0 ∷ 0 ∷ 1 ∷ [])
          ∷ (5 ∷ 14 ∷ 254 ∷ 0 ∷ 0 ∷ 1 ∷ [])
          ∷ (7 ∷ 14 ∷ 254 ∷ 0 ∷ 0 ∷ 2 ∷ [])
          ∷ (8 ∷ 32 ∷ 0 ∷ 7 ∷ 0 ∷ 5 ∷ [])
          ∷ (6 ∷ 13 ∷ 244 ∷ 8 ∷ 0 ∷ 4 ∷ [])
          ∷ [];
    }

pub a_gets : gets DESK_A (made busy steals) ≡ got_by_a
unfolding machine splice answer_bytes code_claim bytes_claim half gets
a_gets = refl

pub a_gets_too : gets DESK_A (made quiet steals) ≡ got_by_a
unfolding machine splice answer_bytes code_claim bytes_claim half gets
a_gets_too = refl

-- desk B's two records in the quiet state, one of them of a write that the busy one has not
pub b_gets : (gets DESK_B (made quiet steals)).records ≡ (60 ∷ 3 ∷ 254 ∷ 0 ∷ 0 ∷ 2 ∷ []) ∷ (50 ∷ 32 ∷ 245 ∷ 0 ∷ 0 ∷ 0 ∷ []) ∷ []
unfolding machine splice answer_bytes code_claim bytes_claim half gets
b_gets = refl

-- the other number, and the result
pub others_differ : (get_or (made busy steals).answer 7 0 ≡ 6) × (get_or (made quiet steals).answer 7 0 ≡ 2)
unfolding machine answer_bytes
others_differ = (refl, refl)

pub results_differ : ((made busy steals).n ≡ 12) × ((made quiet steals).n ≡ 8)
unfolding machine
results_differ = (refl, refl)
