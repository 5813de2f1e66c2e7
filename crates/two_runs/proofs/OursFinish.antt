-- FINISH and PERVOL of the K party do to its part what they do to the state: they end or retune writes on channels that match K, which
-- the part has as they are, and whatever a FINISH ends has an id of the party's or has not K.
-- Assumes nothing.
use Prim.Native.Nat.{ℕ}
use mathlib.Core.Path.{◌∙◌, ◌≡◌, ap, ap₂, refl}
use mathlib.Core.Bool.{Bool, ◌&&◌, ◌||◌, false, not, true}
use mathlib.Core.List.{List, [], ◌∷◌, map}
use lib.Dec.{T, eqb, leb}
use Rattle.machine_laws.specs.machine.Numbers.{synced}
use Rattle.machine_laws.specs.machine.State.{Call, Channel, Outcome, State, Write}
use Rattle.machine_laws.specs.machine.Maps.{bit, half, named, odd}
use Rattle.machine_laws.specs.machine.Commands.{do_finish, do_pervol, each, each_change, cut_fronts, finished, front_replies, in_progress, matching, on_front, period_in, playing, remember_finish, remember_tone, set_tone, volume_in}
use Rattle.machine_laws.proofs.machine.Tests.{and_left, and_right, by_test, if_elim, or_named, test_false, test_true}
use Rattle.machine_laws.proofs.KeepingCalls.{in_progress-named}
use Rattle.two_runs.specs.TwoRuns.{Party, holds, mask}
use Rattle.two_runs.specs.Part.{fitting, our_write}
use Rattle.two_runs.proofs.Part.{project, project_out}
use Rattle.two_runs.proofs.Settle.{Loop}
use Rattle.two_runs.proofs.TheirsFinish.{on_front_all, on_front-key}
use Rattle.two_runs.proofs.OursPart.{Tame, finished_own, fit_own, mask_own, matching-mask, matching_own, mismatch-mask, own_floor, own_writes}
use Rattle.two_runs.proofs.OursEach.{each_tame}
use Rattle.two_runs.proofs.OursFronts.{gone_loop, gone_says, gone_state}

module _ (p : Party) (real : T (not (eqb p.key 0))) where
  -- ---- in progress in the part is what is so in the state, of channels with K

  progress_mask : (m : ℕ) (cs : List Channel) → T (named (holds p) m cs) → in_progress m (map (mask p) cs) ≡ in_progress m cs
  unfolding in_progress named
  progress_mask m [] t = refl
  progress_mask m (c ∷ cs) t =
      ap₂ bit (go (odd m) (or_named (odd m) (holds p c) (and_left (not (odd m) || holds p c) (named (holds p) (half m) cs) t)))
      (progress_mask (half m) cs (and_right (not (odd m) || holds p c) (named (holds p) (half m) cs) t))
    where
      go : (b : Bool) → (T b → T (holds p c)) → (b && playing (mask p c)) ≡ (b && playing c)
      go true h = ap playing (mask_own p real c (h tt))
      go false h = refl

  -- ---- FINISH, PERVOL

  module _ (c : Call) (s : State) (k : c.key ≡ p.key) (mine : T (p.mine c.id)) (lp : Loop p s) where
    on_front_tame : (n : ℕ) (g : Write → Write) → ((w : Write) → T (our_write p w) → T (our_write p (g w)))
        → Tame p real s (each_change n (on_front g) false c s) (each_change n (on_front g) false c (project p s))
    on_front_tame n g e = each_tame p real n (on_front g) (on_front-key g) false c s k mine lp fits
      where
        high : (d : Channel) → T (leb p.floor d.prec) → T (leb p.floor (on_front g d).prec)
        high d t = unfold on_front in if_elim (λ (z : Channel). T (leb p.floor z.prec)) (playing d) (λ _. t) (λ _. t)

        fits : (d : Channel) → T (holds p d) → T (fitting p d) → T (fitting p (on_front g d))
        fits d h f =
            fit_own p real (on_front g d) (rw (on_front-key g d) h) (high d (own_floor p real d h f)) (on_front_all (our_write p) g e d (own_writes p real d h f))

    x : ℕ
    x = matching c.key c.map s.channels

    m : ℕ
    m = in_progress x s.channels

    matched : T (named (holds p) x s.channels)
    unfolding x
    matched = matching_own p real c.key k c.map s.channels

    off : T (named (holds p) m s.channels)
    unfolding m
    off = in_progress-named (holds p) x s.channels matched

    same_map : in_progress (matching c.key c.map (map (mask p) s.channels)) (map (mask p) s.channels) ≡ m
    unfolding m x
    same_map = ap (λ (y : ℕ). in_progress y (map (mask p) s.channels)) (matching-mask p real c.key k c.map s.channels) ∙ progress_mask x s.channels matched

    -- a FINISH at once of a state, by the map of what it ends
    ends : ℕ → State → Outcome
    ends y u = each 11 c (front_replies y u) (cut_fronts y u) u

    finish-now : ends m (project p s) ≡ project_out p (ends m s)
    unfolding ends each project
    finish-now =
        rw (matching-mask p real c.key k c.map s.channels, mismatch-mask p real c.key k c.map s.channels)
        (finished_own p real 11 c _ _ _ _ _ mine (unfold project in gone_says p real m s off lp) (unfold project in gone_state p real m s off))

    finish_own : ends (in_progress (matching c.key c.map (project p s).channels) (project p s).channels) (project p s) ≡ project_out p (ends m s)
    unfolding project
    finish_own = ap (λ (y : ℕ). ends y (project p s)) same_map ∙ finish-now

    pub finish_tame : Tame p real s (do_finish c s) (do_finish c (project p s))
    unfolding do_finish ends m x
    finish_tame =
        by_test (synced c.flags)
        (λ t. rw (test_true (synced c.flags) t) (on_front_tame 11 remember_finish (λ w v. v)))
        (λ t. rw (test_false (synced c.flags) t) (record { alike = finish_own; loop = unfold each finished in gone_loop p real m s off lp }))

    pub pervol_tame : Tame p real s (do_pervol c s) (do_pervol c (project p s))
    unfolding do_pervol
    pervol_tame =
        let a = period_in c.combos in
        let b = volume_in c.combos in
        if_elim (λ (g : Write → Write). Tame p real s (each_change 12 (on_front g) false c s) (each_change 12 (on_front g) false c (project p s))) (synced c.flags)
        (λ _. on_front_tame 12 (remember_tone a b) (λ w v. v)) (λ _. on_front_tame 12 (set_tone a b) (λ w v. v))
