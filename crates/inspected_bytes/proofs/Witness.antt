-- The assurances of the bytes are about something: the run of crates/nothing_left and the FREE of crates/slipped, as a program in C
-- makes them, on four channels; and the first once more on eight, with a display of its own for each call and calls without room.
-- Assumes nothing.
use Prim.Native.Nat.{ℕ}
use mathlib.Core.Path.{◌≡◌, ap, subst, ◌∙◌}
use mathlib.Core.List.{List, [], ◌∷◌, ◌++◌}
use lib.Dec.{T}
use Rattle.machine.specs.Lists.{all}
use Rattle.machine.specs.State.{State as StateM, fresh_on, frees}
use Rattle.machine.specs.Call.{call}
use Rattle.machine.specs.Machine.{machine}
use Rattle.machine.proofs.Tests.{and_left, and_right}
use Rattle.display.specs.Display.{blank, displayed}
use Rattle.display.specs.Runs.{after_calls, shown_after}
use Rattle.image.specs.store.Store.{table_of}
use Rattle.two_runs.specs.TwoRuns.{counted, in_bytes}
use Rattle.c_runs.specs.code_runs.Made.{OnBoard}
use Rattle.c_runs.proofs.code_runs.Made.{board_next}
use Rattle.c_runs.specs.CRuns.{Turn}
use Rattle.c_runs.specs.Made.{Ask, spelt, bytes_of, made as alone, missed}
use Rattle.c_runs.proofs.Witness.{made_took, missed-took}
use Rattle.slipped.specs.nothing_left.NothingLeft.{NothingLeft}
use Rattle.slipped.specs.Slipped.{slips, slip}
use Rattle.inspected_bytes.specs.Inspected.{Chain, Ran, state_after, table_after, holds, Inserted}
use Rattle.inspected_bytes.proofs.Made.{turn_of, made, spelts, calls_made, made_append, handed_parts, fresh_on_lem, fresh-bytes}
use Rattle.inspected_bytes.proofs.Made.{machine_runs_are_runs_of_C}
use Rattle.inspected_bytes.proofs.Runs.{chain}
use Rattle.inspected_bytes.proofs.Examples.{early, frees9, late}
use Rattle.inspected_bytes.proofs.Inspected.{follows_fresh, nothing_left_in_the_bytes, nothing-slipped_into_the_bytes}

abbrev s₀ : StateM
s₀ = after_calls (fresh_on 4) (spelts early)

abbrev d₀ : List ℕ
d₀ = shown_after (fresh_on 4) (spelts early) blank

abbrev front : List Turn
front = made (fresh_on 4) blank early

abbrev back : List Turn
back = made (call s₀ (spelt frees9)).next (displayed s₀ (spelt frees9) d₀) late

front_ran : Ran (bytes_of (fresh_on 4)) (table_of (fresh_on 4)) blank front
front_ran = machine_runs_are_runs_of_C 4 tt early (unfold machine counted in_bytes in tt)

reaches : holds (state_after (bytes_of (fresh_on 4)) front) (table_after (table_of (fresh_on 4)) front) ≡ s₀
reaches = (follows_fresh (fresh-bytes 4 tt) front front_ran).same ∙ ap (after_calls (fresh_on 4)) (calls_made (fresh_on 4) blank early)

slips_there : T (slips s₀ (spelt frees9))
unfolding machine after_calls frees slip
slips_there = tt

pub unseen : Inserted (bytes_of (fresh_on 4)) (table_of (fresh_on 4)) blank front (turn_of s₀ d₀ frees9) back (made (fresh_on 4) blank (early ++ late))
unseen =
    nothing-slipped_into_the_bytes 4 (bytes_of (fresh_on 4)) (table_of (fresh_on 4)) blank front (turn_of s₀ d₀ frees9) back (made (fresh_on 4) blank (early ++ late))
    (fresh-bytes 4 tt)
    (subst (Ran (bytes_of (fresh_on 4)) (table_of (fresh_on 4)) blank) (made_append (fresh_on 4) blank early (frees9 ∷ late))
    (machine_runs_are_runs_of_C 4 tt (early ++ frees9 ∷ late) (unfold machine counted in_bytes in tt)))
    (machine_runs_are_runs_of_C 4 tt (early ++ late) (unfold machine counted in_bytes in tt))
    (handed_parts (fresh_on 4) (call s₀ (spelt frees9)).next (fresh_on 4) blank (displayed s₀ (spelt frees9) d₀) blank early late)
    (rw reaches slips_there)

pub left_after : NothingLeft (holds (state_after (bytes_of (fresh_on 8)) (made (fresh_on 8) blank (early ++ late))) (table_after (table_of (fresh_on 8)) (made (fresh_on 8) blank (early ++ late))))
left_after =
    nothing_left_in_the_bytes 8 (bytes_of (fresh_on 8)) (table_of (fresh_on 8)) blank (made (fresh_on 8) blank (early ++ late)) (fresh-bytes 8 tt)
    (chain (bytes_of (fresh_on 8)) (table_of (fresh_on 8)) blank (made (fresh_on 8) blank (early ++ late))
    (machine_runs_are_runs_of_C 8 tt (early ++ late) (unfold machine counted in_bytes in tt)))

-- ---- each call with a display of its own, and before each a call without room for its answer

abbrev apart : StateM → List Ask → List Turn
apart s [] = []
apart s (a ∷ qs) = missed s ∷ alone s a ∷ apart (call s (spelt a)).next qs

apart_chain : (s : StateM) (qs : List Ask) → OnBoard s → T (all in_bytes (spelts qs)) → Chain (bytes_of s) (table_of s) (apart s qs)
unfolding all
apart_chain s [] b f = tt
apart_chain s (a ∷ qs) b f =
    let g = and_left (in_bytes (spelt a)) (all in_bytes (spelts qs)) f in
    let h = and_right (in_bytes (spelt a)) (all in_bytes (spelts qs)) f in
    (missed-took s, (made_took b a g, apart_chain (call s (spelt a)).next qs (board_next s (spelt a) g b) h))

abbrev among : List Turn
among = apart (fresh_on 8) (early ++ late)

pub left_apart : NothingLeft (holds (state_after (bytes_of (fresh_on 8)) among) (table_after (table_of (fresh_on 8)) among))
left_apart =
    nothing_left_in_the_bytes 8 (bytes_of (fresh_on 8)) (table_of (fresh_on 8)) blank among (fresh-bytes 8 tt)
    (apart_chain (fresh_on 8) (early ++ late) (fresh_on_lem 8 tt) (unfold machine counted in_bytes in tt))
