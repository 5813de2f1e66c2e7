-- The stronger form of demand 3 is about something: K frees its only channel, with its write and who waits for that, so that it is on
-- none, and in one of the runs another takes it. K sees the same, K's part is the same in the end, and the states are not. And a command with a key on no channel moves
-- nothing, where the same with a key on one does.
-- Assumes nothing.
use Prim.Native.Nat.{ℕ}
use mathlib.Core.Path.{◌≡◌, refl}
use mathlib.Core.Bool.{false, true}
use mathlib.Core.Logic.{inl}
use mathlib.Core.List.{List, [], ◌∷◌, map}
use lib.ListN.{length}
use Rattle.machine_laws.specs.machine.State.{COMMAND, State}
use Rattle.machine_laws.specs.machine.Call.{call}
use Rattle.machine_laws.specs.machine.Lists.{among}
use Rattle.machine_laws.specs.machine.Machine.{machine}
use Rattle.machine_laws.specs.machine.Walks.{plays}
use Rattle.two_runs.specs.TwoRuns.{Party, Step, claim, our, own, reached, seen, their}
use Rattle.two_runs.specs.Core.{Begins, Goes, may_also, of_party}
use Rattle.two_runs.proofs.Part.{project}
use Rattle.two_runs.proofs.TwoRuns.{core, same_part_after}
use Rattle.two_runs.proofs.Witness.{ask, brief}
use Rattle.two_runs.proofs.OnNoChannel.{moves-nothing}

-- K is 1 and P is 10, which stands as 138
abbrev party : Party
party = record { key = 1; floor = 138; mine = λ i. among i (5 ∷ 6 ∷ 7 ∷ 9 ∷ []) }

abbrev start : State
start =
    record {
      channels = record { key = 1; prec = 138; locked = false; stopped = false; writes = plays 6 4 300 10 ∷ [] } ∷ [];
      locks = [];
      waiters = record { id = 7; key = 1; map = 1 } ∷ [];
      waiting = [];
      opens = 1 ∷ [];
      last = 0;
    }

-- K frees the channel, and then cannot write on it
abbrev quiet : List Step
quiet = our (ask (COMMAND 9) 5 0 1 0 1 []) ∷ our (ask (COMMAND 3) 9 0 1 0 1 []) ∷ []

abbrev busy : List Step
busy = our (ask (COMMAND 9) 5 0 1 0 1 []) ∷ their (ask (COMMAND 32) 30 0 0 138 0 (1 ∷ [])) ∷ our (ask (COMMAND 3) 9 0 1 0 1 []) ∷ []

begins : Begins party start
unfolding machine claim
begins = record { sane = tt; real = tt; entered = tt; high = tt; low = tt; none = tt; owns = tt; idle = tt }

quiet_goes : Goes party start quiet
unfolding machine claim of_party may_also
quiet_goes = (
  inl (record { party = tt; sends = tt; high = tt; full = tt; fits = tt }),
  (inl (record { party = tt; sends = tt; high = tt; full = tt; fits = tt }), tt),
)

busy-goes : Goes party start busy
unfolding machine claim of_party may_also
busy-goes = (
  inl (record { party = tt; sends = tt; high = tt; full = tt; fits = tt }),
  (record { apart = tt; low = tt; fits = tt }, (inl (record { party = tt; sends = tt; high = tt; full = tt; fits = tt }), tt)),
)

same_calls : own quiet ≡ own busy
unfolding machine claim
same_calls = refl

pub alike : seen party start quiet ≡ seen party start busy
alike = core party start quiet busy begins quiet_goes busy-goes same_calls

-- four replies, two answers, and the channels three times
pub how_many : length (seen party start quiet) ≡ 9
unfolding machine claim
how_many = refl

pub part_alike : project party (reached start quiet) ≡ project party (reached start busy)
part_alike = same_part_after party start start quiet busy begins begins refl quiet_goes busy-goes same_calls

-- the open keys; the last key; who waits; the keys on the channels: the new key is not K
pub quiet_end : brief (reached start quiet) ≡ (1 ∷ []) ∷ (0 ∷ []) ∷ [] ∷ (0 ∷ []) ∷ []
unfolding machine claim brief
quiet_end = refl

pub busy_end : brief (reached start busy) ≡ (1 ∷ []) ∷ (2 ∷ []) ∷ [] ∷ (2 ∷ []) ∷ []
unfolding machine claim brief
busy_end = refl

-- ---- a key on no channel

-- STOP of the channel, with the key 7
pub stop_moves-nothing : (call start (ask (COMMAND 6) 30 0 1 0 7 [])).next ≡ start
stop_moves-nothing = moves-nothing start (ask (COMMAND 6) 30 0 1 0 7 []) (unfold machine in tt) (unfold machine in tt) tt (unfold machine in tt)

-- with K it is done
pub stop_moves : map (λ c. c.stopped) (call start (ask (COMMAND 6) 5 0 1 0 1 [])).next.channels ≡ true ∷ []
unfolding machine
stop_moves = refl
