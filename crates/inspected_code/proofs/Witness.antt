-- The assurances of the code are about something: wherever the premises can be met by calls of the machine that fit their bytes, they
-- can be met by runs of the code. So by the run of crates/nothing_left with the FREE of crates/slipped, on four channels.
-- Assumes nothing.
--
--   inserted s d c       the call as a step of the code
use Prim.Native.Nat.{ℕ}
use mathlib.Core.Path.{◌≡◌, ap, subst, ◌∙◌}
use mathlib.Core.List.{List, ◌∷◌, ◌++◌}
use lib.Dec.{T}
use Rattle.machine.specs.State.{Call, State as StateM, fresh_on}
use Rattle.machine.specs.Lists.{all}
use Rattle.machine.specs.Call.{call}
use Rattle.machine.specs.Machine.{machine}
use Rattle.display.specs.Display.{blank, displayed}
use Rattle.display.specs.Runs.{after_calls, shown_after}
use Rattle.board.specs.Board.{sized}
use Rattle.code_runs.specs.Made.{made as turn_of}
use Rattle.two_runs.specs.TwoRuns.{counted, in_bytes}
use Rattle.slipped.specs.nothing_left.NothingLeft.{NothingLeft}
use Rattle.slipped.proofs.nothing_left.Witness.{run}
use Rattle.slipped.specs.Slipped.{slips}
use Rattle.slipped.proofs.Witness.{early, late, frees9, frees9-slips}
use Rattle.inspected_code.specs.Inspected.{Step, state_after, Fresh, Inserted}
use Rattle.inspected_code.proofs.Made.{asked_of_lem, made, made_append, calls_made, handed_parts, machine_runs_are_runs_of_the_code}
use Rattle.inspected_code.proofs.Inspected.{follows_fresh, nothing_left_by_the_code, nothing-slipped_into_the_code}

abbrev pub inserted : StateM → List ℕ → Call → Step
inserted s d c = record { turn = turn_of s c; display = displayed s c d }

module _ (w : ℕ) (t : T (sized w)) (before : List Call) (c : Call) (behind : List Call) (f : T (all in_bytes (before ++ c ∷ behind)))
    (g : T (all in_bytes before)) (h : T (all in_bytes (before ++ behind))) (p : T (slips (after_calls (fresh_on w) before) c)) where
  abbrev s₀ : StateM
  s₀ = after_calls (fresh_on w) before

  abbrev d₀ : List ℕ
  d₀ = shown_after (fresh_on w) before blank

  abbrev front₀ : List Step
  front₀ = made (fresh_on w) blank before

  abbrev back₀ : List Step
  back₀ = made (call s₀ c).next (displayed s₀ c d₀) behind

  reaches : state_after w front₀ ≡ s₀
  reaches = (follows_fresh w t front₀ (machine_runs_are_runs_of_the_code w t before g)).same ∙ ap (after_calls (fresh_on w)) (calls_made (fresh_on w) blank before)

  pub unseen_of_the_machine : Inserted w front₀ (inserted s₀ d₀ c) back₀ (made (fresh_on w) blank (before ++ behind))
  unseen_of_the_machine =
      nothing-slipped_into_the_code w t front₀ (inserted s₀ d₀ c) back₀ (made (fresh_on w) blank (before ++ behind))
      (subst (Fresh w) (made_append (fresh_on w) blank before (c ∷ behind)) (machine_runs_are_runs_of_the_code w t (before ++ c ∷ behind) f))
      (machine_runs_are_runs_of_the_code w t (before ++ behind) h)
      (handed_parts (fresh_on w) (call s₀ c).next (fresh_on w) blank (displayed s₀ c d₀) blank before behind)
      (rw (reaches, asked_of_lem s₀ c) p)

-- ---- a run

pub frees9_unseen : Inserted 4 (made (fresh_on 4) blank early) (inserted (after_calls (fresh_on 4) early) (shown_after (fresh_on 4) early blank) frees9)
    (made (call (after_calls (fresh_on 4) early) frees9).next (displayed (after_calls (fresh_on 4) early) frees9 (shown_after (fresh_on 4) early blank)) late)
    (made (fresh_on 4) blank (early ++ late))
frees9_unseen =
    unseen_of_the_machine 4 tt early frees9 late (unfold machine counted in_bytes in tt) (unfold machine counted in_bytes in tt) (unfold machine counted in_bytes in tt) frees9-slips

pub left_after : NothingLeft (state_after 4 (made (fresh_on 4) blank run)) × NothingLeft (state_after 8 (made (fresh_on 8) blank run))
left_after = (
  nothing_left_by_the_code 4 tt (made (fresh_on 4) blank run) (machine_runs_are_runs_of_the_code 4 tt run (unfold machine counted in_bytes in tt)),
  nothing_left_by_the_code 8 tt (made (fresh_on 8) blank run) (machine_runs_are_runs_of_the_code 8 tt run (unfold machine counted in_bytes in tt)),
)
