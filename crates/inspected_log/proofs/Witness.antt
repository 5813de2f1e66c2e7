-- The claim about the program is about something: the log of document 01 in one lump, and the same with the line of
-- crates/inspected_lines in three, one of them without bytes. For each there is a run of the program; what it writes for the others
-- is the same.
-- Assumes nothing.
use Prim.Native.Nat.{ℕ}
use mathlib.Core.Path.{◌≡◌, refl}
use mathlib.Core.List.{List, [], ◌∷◌, ◌++◌}
use native.Mathlib.Omega.{arith}
use lib.ListN.{replicate, length-replicate}
use Rattle.machine.specs.State.{fresh_on}
use Rattle.machine.specs.Log.{lines}
use Rattle.machine.specs.Machine.{machine}
use Rattle.machine.specs.Text.{bytes, page}
use Rattle.display.specs.Display.{blank}
use Rattle.board.specs.store.Store.{table_of}
use Rattle.board.specs.Board.{struct_of}
use Rattle.whole_log.specs.taking.Desk.{hidden}
use Rattle.whole_log.specs.Whole.{joined, Runs}
use Rattle.whole_log.proofs.Runs.{run_exists}
use Rattle.inspected_lines.proofs.Witness.{before, slipped, behind, slips_there}
use Rattle.inspected_log.specs.Program.{Inserted, text, own, more}
use Rattle.inspected_log.proofs.Program.{nothing-slipped_into_the_program}

abbrev front : List ℕ
front = page ("F000000000000000" ∷ "200501000A000102030C" ∷ "0D06000100000100" ∷ "200740001400000103" ∷ [])

abbrev back : List ℕ
back = page ("0908010300000100" ∷ [])

-- cut within the inserted line
abbrev with_lumps : List (List ℕ)
with_lumps = (front ++ bytes "03090001") ∷ [] ∷ (bytes "00000900" ++ 10 ∷ back) ∷ []

abbrev without_lumps : List (List ℕ)
without_lumps = (front ++ back) ∷ []

-- a page with room for one line's output
abbrev lent : List ℕ
lent = replicate 973 0

pub ran : (bss : List (List ℕ)) → Runs hidden (struct_of (fresh_on 4)) (table_of (fresh_on 4)) blank [] 0 lent bss
ran bss = run_exists 4 tt hidden bss [] lent (omega (arith, length-replicate {A = ℕ} 973 0))

with_spelt : lines (joined with_lumps) ≡ before ++ slipped ∷ behind
unfolding machine bytes page
with_spelt = refl

without_spelt : lines (joined without_lumps) ≡ before ++ behind
unfolding machine bytes page
without_spelt = refl

pub unseen : Inserted hidden 4 before slipped behind (ran with_lumps).out (ran without_lumps).out
unseen =
    nothing-slipped_into_the_program hidden 4 tt [] [] lent lent before slipped behind with_lumps without_lumps (ran with_lumps).out (ran without_lumps).out
    (record { ran = (ran with_lumps).ran; spelt = with_spelt }) (record { ran = (ran without_lumps).ran; spelt = without_spelt }) slips_there

-- crates/inspected_log/proofs/Examples.antt has the three parts
pub written : ((ran with_lumps).out ≡ text hidden 4 before ++ (own hidden 4 before slipped ++ more hidden 4 before behind))
    × ((ran without_lumps).out ≡ text hidden 4 before ++ more hidden 4 before behind)
written = (unseen.within tt, unseen.without)
