-- Demand 3 for a desk: a call of another desk that names one of the desk's ids is refused with 8, and one that names none does not use
-- them; so the others' calls are such as demand 3 asks.
-- Assumes nothing.
use Prim.Native.Nat.{ℕ}
use mathlib.Core.Path.{◌≡◌, refl, subst}
use mathlib.Core.Bool.{true, false, not, ◌||◌}
use mathlib.Core.Logic.{◌⊎◌, inl, inr}
use mathlib.Core.List.{List, [], ◌∷◌}
use lib.Dec.{T, T_not, not_T, eqb, eqb→eq}
use lib.ListN.{length, take}
use Rattle.machine_laws.specs.machine.Lists.{all}
use Rattle.machine_laws.specs.machine.State.{State, Call, Op, OPEN, CLOSE, ABORT, EVENT, CYCLE_ENDED, GAVE_UP, COMMAND, free}
use Rattle.machine_laws.specs.machine.Desks.{desk_of, foreign}
use Rattle.machine_laws.specs.machine.Kinds.{kind}
use Rattle.machine_laws.specs.machine.Call.{call}
use Rattle.machine_laws.specs.machine.Machine.{machine}
use Rattle.machine_laws.specs.machine.Walks.{plays, asks_from}
use Rattle.machine_laws.proofs.machine.Tests.{and_both, and_left, and_right, by_test, test_true, test_false}
use Rattle.two_runs.specs.TwoRuns.{Party, Start, Step, our, their, calls, lends, in_bytes, own, seen, reached, claim, peeks, avoids}
use Rattle.two_runs.specs.TwoRuns.{ByK}
use Rattle.two_runs.specs.Core.{Goes, Missing, OfK, misses}
use Rattle.two_runs.specs.Desk.{of_desk, from_other, spares, KeepsApart, RunOfDesk, Demand3Desk}
use Rattle.two_runs.proofs.TwoRuns.{begins_of, core, run_goes}
use Rattle.two_runs.proofs.Premises.{premises, starts_all}

-- a call of another desk names no id of this one, or is of the other half
apart_or_foreign : (d : ℕ) (c : Call) → T (not (eqb c.desk d)) → T (eqb (desk_of c.id) d) → T (foreign c)
unfolding foreign
apart_or_foreign d c n t =
    not_T (eqb (desk_of c.id) c.desk)
    (λ e. T_not (eqb c.desk d) n
    (subst (λ (x : ℕ). T (eqb x d)) (eqb→eq (desk_of c.id) c.desk e) t))

pub avoids_of : (d k f : ℕ) (o : Op) (c : Call) (s : State) → T (from_other d o c) → T (spares (of_desk d k f) o c s) → T (avoids (of_desk d k f) o c s)
unfolding from_other spares avoids
avoids_of d k f OPEN c s n t = t
avoids_of d k f CLOSE c s n t = t
avoids_of d k f ABORT c s n t =
    by_test (foreign c) (λ g. rw (test_true (foreign c) g) tt)
    (λ g. rw (test_false (foreign c) g) (not_T (eqb (desk_of c.id) d)
    (λ u. T_not (foreign c) g (apart_or_foreign d c (rw (test_false (foreign c) g) at n) u))))
avoids_of d k f (EVENT v) c s n t = t
avoids_of d k f (COMMAND m) c s n t =
    by_test (foreign c) (λ g. rw (test_true (foreign c) g) tt)
    (λ g. rw (test_false (foreign c) g)
    (and_both (peeks (kind m) || not (eqb c.key k)) (not (eqb (desk_of c.id) d)) (rw (test_false (foreign c) g) at t)
    (not_T (eqb (desk_of c.id) d)
    (λ u. T_not (foreign c) g (apart_or_foreign d c (rw (test_false (foreign c) g) at n) u)))))

-- what is asked of one call
pub of_desk_lem : (p : Party) (s : State) (c : Call) → ByK p s c ⊎ T (misses c.op c) → T (lends c) → T (in_bytes c) → OfK p s c ⊎ Missing c
unfolding calls all
of_desk_lem p s c (inl b) l f =
    (run_goes p s (our c ∷ []) (record { keeps = (b, tt); full = and_both (lends c) true l tt; fits = and_both (in_bytes c) true f tt })).0
of_desk_lem p s c (inr m) l f = inr (record { refused = m; full = l; fits = f })

goes_of : (d k f : ℕ) (s : State) (xs : List Step) → KeepsApart d (of_desk d k f) s xs
    → T (all lends (calls xs)) → T (all in_bytes (calls xs)) → Goes (of_desk d k f) s xs
unfolding calls all
goes_of d k f s [] h l i = tt
goes_of d k f s (our c ∷ xs) h l i = (
  of_desk_lem (of_desk d k f) s c h.0 (and_left (lends c) (all lends (calls xs)) l) (and_left (in_bytes c) (all in_bytes (calls xs)) i),
  goes_of d k f (call s c).next xs h.1 (and_right (lends c) (all lends (calls xs)) l)
      (and_right (in_bytes c) (all in_bytes (calls xs)) i),
)
goes_of d k f s (their c ∷ xs) h l i = (
  record {
    apart = avoids_of d k f c.op c s h.0.other h.0.apart;
    low = h.0.low;
    fits = and_left (in_bytes c) (all in_bytes (calls xs)) i;
  },
  goes_of d k f (call s c).next xs h.1 (and_right (lends c) (all lends (calls xs)) l)
      (and_right (in_bytes c) (all in_bytes (calls xs)) i),
)

pub desk_sees_the_same : Demand3Desk
desk_sees_the_same d k f s xs ys a h g e =
    core (of_desk d k f) s xs ys (begins_of (of_desk d k f) s a) (goes_of d k f s xs h.keeps h.full h.fits)
    (goes_of d k f s ys g.keeps g.full g.fits) e

-- ---- two runs that meet the premises: desk B has key 1 on channel 0

-- channel 0 with the writes 33 and 34 and who waits for a cycle; channel 1 is desk A's
abbrev pub begun : State
begun =
    record {
      channels =
          record { key = 1; prec = 138; locked = false; stopped = false; writes = plays 33 2 200 50 ∷ plays 34 1 124 64 ∷ [] }
          ∷ record { key = 7; prec = 138; locked = false; stopped = false; writes = plays 2 1 124 64 ∷ [] }
          ∷ free
          ∷ free
          ∷ [];
      locks = [];
      waiters = record { id = 35; key = 1; map = 1 } ∷ [];
      waiting = [];
      opens = 1 ∷ 7 ∷ [];
      last = 7;
    }

-- desk B reads, writes with an id of desk A's and gets 8, the driver gives up a write, desk B stops
abbrev alone : List Step
alone =
    our (asks_from 1 (COMMAND 2) 40 0 1 128 1 [] 64)
    ∷ our (asks_from 1 (COMMAND 3) 2 0 1 128 1 [] 64)
    ∷ our (asks_from 0 (EVENT GAVE_UP) 0 0 1 0 0 [] 64)
    ∷ our (asks_from 1 (COMMAND 6) 63 0 1 128 1 [] 64) ∷ []

-- desk A names desk B's ids, to abort a write and to write with its own key, and gets 8; it takes two channels, its own write ends
abbrev beside : List Step
beside =
    their (asks_from 0 ABORT 34 0 0 0 1 [] 64)
    ∷ our (asks_from 1 (COMMAND 2) 40 0 1 128 1 [] 64)
    ∷ their (asks_from 0 (COMMAND 3) 41 0 2 128 7 [] 64)
    ∷ their (asks_from 0 (COMMAND 32) 3 0 0 138 0 (12 ∷ []) 64)
    ∷ our (asks_from 1 (COMMAND 3) 2 0 1 128 1 [] 64)
    ∷ their (asks_from 1 (EVENT GAVE_UP) 33 0 2 0 1 [] 64)
    ∷ our (asks_from 1 (EVENT GAVE_UP) 9 0 3 0 0 [] 64)
    ∷ our (asks_from 1 (COMMAND 6) 63 0 1 128 1 [] 64)
    ∷ []

pub begins : Start (of_desk 1 1 138) begun
begins = starts_all (of_desk 1 1 138) begun (unfold machine claim premises in tt)

alone-keeps : RunOfDesk 1 (of_desk 1 1 138) begun alone
unfolding machine claim from_other spares misses
alone-keeps =
    record {
      keeps = (
        inl (record { party = tt; sends = tt; high = tt }),
        (inr tt, (inl (record { party = tt; sends = tt; high = tt }), (inl (record { party = tt; sends = tt; high = tt }), tt))),
      );
      full = tt;
      fits = tt;
    }

beside-keeps : RunOfDesk 1 (of_desk 1 1 138) begun beside
unfolding machine claim from_other spares misses
beside-keeps =
    record {
      keeps = (
        record { other = tt; apart = tt; low = tt },
        (
          inl (record { party = tt; sends = tt; high = tt }),
          (
            record { other = tt; apart = tt; low = tt },
            (
              record { other = tt; apart = tt; low = tt },
              (
                inr tt,
                (
                  record { other = tt; apart = tt; low = tt },
                  (inl (record { party = tt; sends = tt; high = tt }), (inl (record { party = tt; sends = tt; high = tt }), tt)),
                ),
              ),
            ),
          ),
        ),
      );
      full = tt;
      fits = tt;
    }

pub same_calls : own alone ≡ own beside
unfolding machine claim
same_calls = refl

pub alike : seen (of_desk 1 1 138) begun alone ≡ seen (of_desk 1 1 138) begun beside
alike = desk_sees_the_same 1 1 138 begun alone beside begins alone-keeps beside-keeps same_calls

-- four answers, four replies (READ's, the write 33 and the WAITCYCLE 35, STOP's) and the channels five times
pub how_many : length (seen (of_desk 1 1 138) begun alone) ≡ 13
unfolding machine claim
how_many = refl

-- desk A's two calls are answered 8, and so is desk B's
pub kept_off : ((call begun (asks_from 0 ABORT 34 0 0 0 1 [] 64)).answer.error ≡ 8)
    × ((call begun (asks_from 0 (COMMAND 3) 41 0 2 128 7 [] 64)).answer.error ≡ 8)
    × ((call begun (asks_from 1 (COMMAND 3) 2 0 1 128 1 [] 64)).answer.error ≡ 8)
unfolding machine
kept_off = (refl, refl, refl)

-- ---- two runs for desk A, in the same state: it has key 7 on channel 1

-- desk A writes, a cycle ends, it reads
abbrev alone_a : List Step
alone_a =
    our (asks_from 0 (COMMAND 3) 3 0 2 128 7 [] 64)
    ∷ our (asks_from 0 (EVENT CYCLE_ENDED) 0 0 2 0 0 [] 64)
    ∷ our (asks_from 0 (COMMAND 2) 31 0 2 128 7 [] 64)
    ∷ []

-- each desk opens with a key of its own and closes it again, desk B before and behind desk A's calls; desk B names desk A's ids, and desk A
-- desk B's under its own key: both get 8
abbrev beside_a : List Step
beside_a =
    their (asks_from 1 OPEN 0 0 0 138 0 (4 ∷ []) 64)
    ∷ their (asks_from 0 OPEN 0 0 0 138 0 [] 64)
    ∷ our (asks_from 0 (COMMAND 3) 3 0 2 128 7 [] 64)
    ∷ their (asks_from 1 ABORT 2 0 0 0 7 [] 64)
    ∷ their (asks_from 0 (COMMAND 8) 40 0 2 128 7 [] 64)
    ∷ their (asks_from 0 ABORT 33 0 0 0 7 [] 64)
    ∷ their (asks_from 1 (COMMAND 3) 40 0 4 128 8 [] 64)
    ∷ their (asks_from 1 CLOSE 0 0 0 0 8 [] 64)
    ∷ our (asks_from 1 (EVENT CYCLE_ENDED) 9 0 14 0 0 [] 64)
    ∷ their (asks_from 0 CLOSE 0 0 0 0 9 [] 64)
    ∷ our (asks_from 0 (COMMAND 2) 31 0 2 128 7 [] 64)
    ∷ []

begins_a : Start (of_desk 0 7 138) begun
begins_a = starts_all (of_desk 0 7 138) begun (unfold machine claim premises in tt)

alone_a_keeps : RunOfDesk 0 (of_desk 0 7 138) begun alone_a
unfolding machine claim from_other spares
alone_a_keeps =
    record {
      keeps = (
        inl (record { party = tt; sends = tt; high = tt }),
        (
          inl (record { party = tt; sends = tt; high = tt }),
          (inl (record { party = tt; sends = tt; high = tt }), tt),
        ),
      );
      full = tt;
      fits = tt;
    }

beside_a_keeps : RunOfDesk 0 (of_desk 0 7 138) begun beside_a
unfolding machine claim from_other spares
beside_a_keeps =
    record {
      keeps = (
        record { other = tt; apart = tt; low = tt },
        (
          record { other = tt; apart = tt; low = tt },
          (
            inl (record { party = tt; sends = tt; high = tt }),
            (
              record { other = tt; apart = tt; low = tt },
              (
                record { other = tt; apart = tt; low = tt },
                (
                  record { other = tt; apart = tt; low = tt },
                  (
                    record { other = tt; apart = tt; low = tt },
                    (
                      record { other = tt; apart = tt; low = tt },
                      (
                        inl (record { party = tt; sends = tt; high = tt }),
                        (
                          record { other = tt; apart = tt; low = tt },
                          (inl (record { party = tt; sends = tt; high = tt }), tt),
                        ),
                      ),
                    ),
                  ),
                ),
              ),
            ),
          ),
        ),
      );
      full = tt;
      fits = tt;
    }

pub alike_a : seen (of_desk 0 7 138) begun alone_a ≡ seen (of_desk 0 7 138) begun beside_a
alike_a = desk_sees_the_same 0 7 138 begun alone_a beside_a begins_a alone_a_keeps beside_a_keeps (unfold machine claim in refl)

-- the keys that stand open at the end: those of desk A's and desk B's openings are gone again
pub closed_again : ((reached begun (take 2 beside_a)).opens ≡ 1 ∷ 7 ∷ 8 ∷ 9 ∷ []) × ((reached begun beside_a).opens ≡ 1 ∷ 7 ∷ [])
unfolding machine claim
closed_again = (refl, refl)
