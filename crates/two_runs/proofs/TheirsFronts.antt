-- A front write that is cut on a channel without K is nothing to the K party: the write, and who waited for a cycle of it, have ids that
-- are not its own. FINISH cuts such writes, and the driver's giving up one.
-- Assumes nothing.
use Prim.Native.Nat.{ℕ}
use mathlib.Core.Path.{◌≡◌, refl}
use mathlib.Core.Bool.{Bool, ◌||◌, not, true}
use mathlib.Core.List.{List, [], ◌∷◌, map}
use lib.Dec.{T, leb}
use lib.ListN.{take}
use Rattle.machine_laws.specs.machine.Lists.{all}
use Rattle.machine_laws.specs.machine.State.{Channel, State, Write}
use Rattle.machine_laws.specs.machine.Maps.{half, named, odd}
use Rattle.machine_laws.specs.machine.Granting.{aborted_in, cut_replies}
use Rattle.machine_laws.specs.machine.Commands.{back, cut_fronts, front_gone, front_only, front_replies}
use Rattle.machine_laws.proofs.machine.Tests.{and_both, and_left, and_right, by_test, test_false, test_true}
use Rattle.two_runs.specs.TwoRuns.{Party, holds, own_replies}
use Rattle.two_runs.specs.Part.{fitting, our_write, their_write}
use Rattle.two_runs.proofs.Part.{project}
use Rattle.two_runs.proofs.Away.{aborted_in_quiet, own_append}
use Rattle.two_runs.proofs.Settle.{Loop, cut_quiet}
use Rattle.two_runs.proofs.TheirsEach.{cut_loop, cut_part}

pub back_not : (p : Party) (ws : List Write) → T (all (their_write p) ws) → T (all (their_write p) (back ws))
unfolding back all
back_not p [] u = tt
back_not p (w ∷ ws) u = and_right (their_write p w) (all (their_write p) ws) u

-- ---- the front writes alone

pub take_all : (q : Write → Bool) (ws : List Write) → T (all q ws) → T (all q (take 1 ws))
unfolding all
take_all q [] t = tt
take_all q (w ∷ ws) t = and_both (q w) true (and_left (q w) (all q ws) t) tt

module _ (p : Party) where
  front_fit : (c : Channel) → T (fitting p c) → T (fitting p (front_only c))
  unfolding fitting
  front_fit c f =
      by_test (holds p c)
      (λ h. let g = rw (test_true (holds p c) h) at f in
      rw (test_true (holds p c) h)
      (and_both (leb p.floor c.prec) (all (our_write p) (take 1 c.writes)) (and_left (leb p.floor c.prec) (all (our_write p) c.writes) g)
      (take_all (our_write p) c.writes (and_right (leb p.floor c.prec) (all (our_write p) c.writes) g))))
      (λ h. rw (test_false (holds p c) h) (take_all (their_write p) c.writes (rw (test_false (holds p c) h) at f)))

  pub fronts_fit : (cs : List Channel) → T (all (fitting p) cs) → T (all (fitting p) (map front_only cs))
  unfolding all
  fronts_fit [] t = tt
  fronts_fit (c ∷ cs) t =
      and_both (fitting p (front_only c)) (all (fitting p) (map front_only cs)) (front_fit c (and_left (fitting p c) (all (fitting p) cs) t))
      (fronts_fit cs (and_right (fitting p c) (all (fitting p) cs) t))

  fronts_named : (m : ℕ) (cs : List Channel) → T (named (λ c. not (holds p c)) m cs) → T (named (λ c. not (holds p c)) m (map front_only cs))
  unfolding named
  fronts_named m [] t = tt
  fronts_named m (c ∷ cs) t =
      and_both (not (odd m) || not (holds p c)) (named (λ d. not (holds p d)) (half m) (map front_only cs))
      (and_left (not (odd m) || not (holds p c)) (named (λ d. not (holds p d)) (half m) cs) t)
      (fronts_named (half m) cs (and_right (not (odd m) || not (holds p c)) (named (λ d. not (holds p d)) (half m) cs) t))

-- ---- the front writes of channels without K are cut

module _ (p : Party) (m : ℕ) (s : State) (off : T (named (λ d. not (holds p d)) m s.channels)) (lp : Loop p s) where
  pub fronts_quiet : own_replies p (front_replies m s) ≡ []
  fronts_quiet =
      own_append p (aborted_in m (map front_only s.channels)) (cut_replies m s)
      (aborted_in_quiet p m (map front_only s.channels) (fronts_named p m s.channels off) (fronts_fit p s.channels lp.fit))
      (cut_quiet p m s off lp.waiters_ok)

  pub fronts_still : project p (cut_fronts m s) ≡ project p s
  fronts_still = cut_part p front_gone (λ d. refl) (λ d. back_not p d.writes) m s off lp

  pub fronts_loop : Loop p (cut_fronts m s)
  fronts_loop = cut_loop p front_gone (λ d. refl) (λ d. back_not p d.writes) m s off lp
