-- Front writes that are cut on channels of K's are cut in the part as in the state: the part has those channels as they are, the writes
-- have ids of the party's, and of those who wait for a cycle of theirs the part has all with K. FINISH cuts such writes, and the
-- driver's giving up one.
-- Assumes nothing.
use Prim.Native.Nat.{ℕ}
use mathlib.Core.Path.{◌∙◌, ◌≡◌, ap, ap₂, refl}
use mathlib.Core.Bool.{Bool, ◌&&◌, ◌||◌, not}
use mathlib.Core.List.{List, [], ◌++◌, ◌∷◌, map}
use lib.Dec.{T, eqb}
use Rattle.machine_laws.specs.machine.Lists.{all}
use Rattle.machine_laws.specs.machine.State.{Channel, State, Write}
use Rattle.machine_laws.specs.machine.Maps.{half, named, odd}
use Rattle.machine_laws.specs.machine.Granting.{aborted_in, cut_replies}
use Rattle.machine_laws.specs.machine.Commands.{back, cut_fronts, front_gone, front_only, front_replies}
use Rattle.machine_laws.proofs.machine.Tests.{and_right, by_test, test_false, test_true}
use Rattle.two_runs.specs.TwoRuns.{Party, holds, mask, own_replies}
use Rattle.two_runs.specs.Part.{our_write}
use Rattle.two_runs.proofs.Part.{project}
use Rattle.two_runs.proofs.Settle.{Loop}
use Rattle.two_runs.proofs.TheirsFronts.{fronts_fit}
use Rattle.two_runs.proofs.OursPart.{aborted_in_own, cut_state, cut_replies_own, fit_own, own_append_both, own_cut_loop, own_floor, own_writes}

module _ (p : Party) (real : T (not (eqb p.key 0))) where
  -- ---- the front writes alone

  front_mask : (c : Channel) → front_only (mask p c) ≡ mask p (front_only c)
  unfolding mask
  front_mask c = by_test (holds p c) (λ h. simp (test_true (holds p c) h)) (λ h. simp (test_false (holds p c) h))

  fronts_mask : (cs : List Channel) → map front_only (map (mask p) cs) ≡ map (mask p) (map front_only cs)
  fronts_mask [] = refl
  fronts_mask (c ∷ cs) = ap₂ ◌∷◌ (front_mask c) (fronts_mask cs)

  fronts_held : (m : ℕ) (cs : List Channel) → named (holds p) m (map front_only cs) ≡ named (holds p) m cs
  unfolding named
  fronts_held m [] = refl
  fronts_held m (c ∷ cs) = ap (λ (b : Bool). (not (odd m) || holds p c) && b) (fronts_held (half m) cs)

  pub back_all : (ws : List Write) → T (all (our_write p) ws) → T (all (our_write p) (back ws))
  unfolding back all
  back_all [] u = tt
  back_all (w ∷ ws) u = and_right (our_write p w) (all (our_write p) ws) u

  -- ---- they are cut

  pub gone_loop : (m : ℕ) (s : State) → T (named (holds p) m s.channels) → Loop p s → Loop p (cut_fronts m s)
  gone_loop m s off lp =
      own_cut_loop p real front_gone (λ d. refl) (λ d o f. fit_own p real (front_gone d) o (own_floor p real d o f) (back_all d.writes (own_writes p real d o f))) m s off lp

  pub gone_state : (m : ℕ) (s : State) → T (named (holds p) m s.channels) → cut_fronts m (project p s) ≡ project p (cut_fronts m s)
  unfolding project
  gone_state m s off = unfold project in cut_state p real front_gone (λ d. refl) m s off

  pub gone_says : (m : ℕ) (s : State) → T (named (holds p) m s.channels) → Loop p s → front_replies m (project p s) ≡ own_replies p (front_replies m s)
  unfolding project
  gone_says m s off lp =
      own_append_both p real (aborted_in m (map front_only s.channels)) (cut_replies m s) _ _
      (ap (aborted_in m) (fronts_mask s.channels)
      ∙ aborted_in_own p real m (map front_only s.channels) (rw (fronts_held m s.channels) off) (fronts_fit p s.channels lp.fit))
      (unfold project in cut_replies_own p real m s lp.waiters_ok)
