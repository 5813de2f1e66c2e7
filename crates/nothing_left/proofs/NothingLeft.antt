-- Why nothing is left standing: what is asked of each waiting request is `Still` of machine_laws, so nothing is left exactly where a
-- state is at rest; the fresh device is, and every call keeps it: it settles or leaves the state.
-- Assumes nothing.
use Prim.Native.Nat.{ℕ}
use mathlib.Core.Bool.{Bool, true, false, not, ◌&&◌}
use mathlib.Core.List.{List, [], ◌∷◌}
use lib.Dec.{T}
use lib.ListN.{length}
use Rattle.machine.specs.Lists.{all}
use Rattle.machine.specs.State.{Lock, Request, State, Call, fresh_on}
use Rattle.machine.specs.Choosing.{Look, fails, held, grants, look}
use Rattle.machine.specs.Call.{call}
use Rattle.machine.proofs.Tests.{and_left, and_right, and_both}
use Rattle.display.proofs.machine_laws.Lists.{all_any}
use Rattle.display.specs.machine_laws.Settling.{Still, AllStill, AtRest}
use Rattle.display.proofs.machine_laws.Resting.{call_rests}
use Rattle.display.specs.Runs.{after_calls}
use Rattle.nothing_left.specs.Settles.{settles}
use Rattle.nothing_left.specs.NothingLeft.{finds, would_go, would_fail, in_the_way, none_goes, none_fails, none_in_the_way, NothingLeft, NothingLeftStanding}
use Rattle.nothing_left.proofs.Settles.{settles_rests}

-- ---- a state at rest is one in which nothing is left

record One (n : ℕ) (ls : List Lock) (r : Request) (l : Look) : Type 0 where
  goes : T (not (would_go l))
  fails : T (not (r.impatient && would_fail l))
  locked : T (all (λ k. not (in_the_way n k l)) ls)

and_never : (b : Bool) → T (not (b && false))
and_never true = tt
and_never false = tt

patient : (b : Bool) → T (not b) → T (not (b && true))
patient true t = t
patient false t = tt

patient_back : (b : Bool) → T (not (b && true)) → T (not b)
patient_back true t = t
patient_back false t = tt

still_one : (n : ℕ) (ls : List Lock) (r : Request) (l : Look) → Still n ls r l → One n ls r l
unfolding would_go would_fail in_the_way
still_one n ls r fails t = record { goes = tt; fails = patient r.impatient t; locked = all_any (λ k. true) (λ _. tt) ls }
still_one n ls r (held m) t = record { goes = tt; fails = and_never r.impatient; locked = t }
still_one n ls r (grants m) t = absurd t

one_still : (n : ℕ) (ls : List Lock) (r : Request) (l : Look) → One n ls r l → Still n ls r l
unfolding would_go would_fail in_the_way
one_still n ls r fails o = patient_back r.impatient o.fails
one_still n ls r (held m) o = o.locked
one_still n ls r (grants m) o = absurd o.goes

module _ (s : State) where
  abbrev stays : Request → Bool
  stays r = not (would_go (finds s r))

  abbrev waits : Request → Bool
  waits r = not (r.impatient && would_fail (finds s r))

  abbrev clear : Request → Bool
  clear r = all (λ k. not (in_the_way (length s.channels) k (finds s r))) s.locks

  all_still : (rs : List Request) → AllStill s.channels s.locks rs → T (all stays rs) × T (all waits rs) × T (all clear rs)
  unfolding all finds
  all_still [] a = (tt, tt, tt)
  all_still (r ∷ rs) a =
      let o = still_one (length s.channels) s.locks r (look r.prec r.combos s.channels) a.0 in
      let ih = all_still rs a.1 in
      (and_both (stays r) (all stays rs) o.goes ih.0, and_both (waits r) (all waits rs) o.fails ih.1, and_both (clear r) (all clear rs) o.locked ih.2)

  still_all : (rs : List Request) → T (all stays rs) → T (all waits rs) → T (all clear rs) → AllStill s.channels s.locks rs
  unfolding all finds
  still_all [] g f l = tt
  still_all (r ∷ rs) g f l = (
    one_still (length s.channels) s.locks r (look r.prec r.combos s.channels)
        (record { goes = and_left (stays r) (all stays rs) g; fails = and_left (waits r) (all waits rs) f; locked = and_left (clear r) (all clear rs) l }),
    still_all rs (and_right (stays r) (all stays rs) g) (and_right (waits r) (all waits rs) f) (and_right (clear r) (all clear rs) l),
  )

  pub rest_left : AtRest s → NothingLeft s
  unfolding none_goes none_fails none_in_the_way
  rest_left a = let x = all_still s.waiting a in record { goes = x.0; fails = x.1; locked = x.2 }

  pub left_rest : NothingLeft s → AtRest s
  unfolding none_goes none_fails none_in_the_way
  left_rest l = still_all s.waiting l.goes l.fails l.locked

-- ---- any calls

pub calls-rest : (s : State) (cs : List Call) → AtRest s → AtRest (after_calls s cs)
unfolding after_calls
calls-rest s [] a = a
calls-rest s (c ∷ cs) a = calls-rest (call s c).next cs (call_rests s c a)

-- from any state in which nothing is left, as a loaded one may be
pub nothing_left_behind : (s : State) (cs : List Call) → NothingLeft s → NothingLeft (after_calls s cs)
nothing_left_behind s cs l = rest_left (after_calls s cs) (calls-rest s cs (left_rest s l))

pub fresh_rests : (n : ℕ) → AtRest (fresh_on n)
fresh_rests n = tt

pub nothing_left_standing : NothingLeftStanding
nothing_left_standing n cs = rest_left (after_calls (fresh_on n) cs) (calls-rest (fresh_on n) cs (fresh_rests n))

-- and from any state, sound or not, as soon as a call settles
pub nothing_left_once_settled : (s : State) (c : Call) (cs : List Call) → T (settles s c) → NothingLeft (after_calls s (c ∷ cs))
unfolding after_calls
nothing_left_once_settled s c cs t = rest_left (after_calls (call s c).next cs) (calls-rest (call s c).next cs (settles_rests s c t))
