-- FINISH and PERVOL of the others are nothing to the K party: they end or retune writes on channels that match their key and so have
-- not K, and what they end has an id that is not the party's.
-- Assumes nothing.
use Prim.Native.Nat.{ℕ}
use mathlib.Core.Path.{◌≡◌, refl}
use mathlib.Core.Bool.{Bool, false, not}
use mathlib.Core.List.{List, [], ◌∷◌}
use lib.Dec.{T, eqb}
use Rattle.machine_laws.specs.machine.Numbers.{synced}
use Rattle.machine_laws.specs.machine.Lists.{all}
use Rattle.machine_laws.specs.machine.State.{Call, Channel, State, Write}
use Rattle.machine_laws.specs.machine.Commands.{do_finish, do_pervol, each, each_change, finished, front_replies, in_progress, matching, on_first, on_front, period_in, playing, remember_finish, remember_tone, set_tone, volume_in}
use Rattle.machine_laws.proofs.machine.Tests.{and_both, and_left, and_right, if_elim}
use Rattle.machine_laws.proofs.KeepingCalls.{in_progress-named}
use Rattle.two_runs.specs.TwoRuns.{Party, holds}
use Rattle.two_runs.specs.Part.{their_write}
use Rattle.two_runs.proofs.Settle.{Loop}
use Rattle.two_runs.proofs.TheirsEach.{Mild, each_change-mild, finished_quiet, matching_away}
use Rattle.two_runs.proofs.TheirsFronts.{fronts_loop, fronts_quiet, fronts_still}

-- ---- the front write changed under its id

pub on_front-key : (g : Write → Write) (c : Channel) → (on_front g c).key ≡ c.key
unfolding on_front
on_front-key g c = if_elim (λ (d : Channel). d.key ≡ c.key) (playing c) (λ _. refl) (λ _. refl)

module _ (q : Write → Bool) (g : Write → Write) (same : (w : Write) → T (q w) → T (q (g w))) where
  first_all : (ws : List Write) → T (all q ws) → T (all q (on_first g ws))
  unfolding all on_first
  first_all [] t = tt
  first_all (w ∷ ws) t = and_both (q (g w)) (all q ws) (same w (and_left (q w) (all q ws) t)) (and_right (q w) (all q ws) t)

  pub on_front_all : (c : Channel) → T (all q c.writes) → T (all q (on_front g c).writes)
  unfolding on_front
  on_front_all c t = if_elim (λ (d : Channel). T (all q d.writes)) (playing c) (λ _. first_all c.writes t) (λ _. t)

-- ---- FINISH, PERVOL

module _ (p : Party) (c : Call) (s : State) (t : T (not (eqb c.key p.key))) (u : T (not (p.mine c.id))) (lp : Loop p s) where
  on_front-mild : (n : ℕ) (g : Write → Write) → ((w : Write) → T (their_write p w) → T (their_write p (g w))) → Mild p s (each_change n (on_front g) false c s)
  on_front-mild n g e = each_change-mild p (on_front g) (on_front-key g) (on_front_all (their_write p) g e) n false c s t u lp

  pub finish-mild : Mild p s (do_finish c s)
  unfolding do_finish each
  finish-mild =
      let x = matching c.key c.map s.channels in
      let m = in_progress x s.channels in
      let off = in_progress-named (λ d. not (holds p d)) x s.channels (matching_away p c.key c.map s.channels t) in
      if_elim (Mild p s) (synced c.flags) (λ _. on_front-mild 11 remember_finish (λ w v. v))
      (λ _. record {
        quiet = finished_quiet p 11 c _ (front_replies m s) _ u (fronts_quiet p m s off lp);
        still = unfold finished in fronts_still p m s off lp;
        loop = unfold finished in fronts_loop p m s off lp;
      })

  pub pervol-mild : Mild p s (do_pervol c s)
  unfolding do_pervol
  pervol-mild =
      let x = period_in c.combos in
      let y = volume_in c.combos in
      if_elim (λ (g : Write → Write). Mild p s (each_change 12 (on_front g) false c s)) (synced c.flags) (λ _. on_front-mild 12 (remember_tone x y) (λ w v. v))
      (λ _. on_front-mild 12 (set_tone x y) (λ w v. v))
