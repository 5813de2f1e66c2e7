-- Why the two numbers of an answer are no part of what the K party sees: two runs meet every premise of demand 3 and have the same
-- call of the K party's, and the number of desk B's replies that this call tells is 1 in the one and 0 in the other. The reply is to
-- another's ALLOCATE, which waits for a free channel and gets it at the next call, whosever that is. Assumes nothing.
use Prim.Native.Nat.{ℕ}
use mathlib.Core.Path.{◌≡◌, refl}
use mathlib.Core.Bool.{false}
use mathlib.Core.List.{List, [], ◌∷◌}
use lib.ListN.{get_or}
use Rattle.machine.specs.State.{State as StateM}
use Rattle.machine.specs.Call.{call}
use Rattle.machine.specs.Machine.{machine}
use Rattle.image.specs.store.Store.{table_of}
use Rattle.boundary.specs.handed.Handed.{answer_bytes}
use Rattle.two_runs.specs.TwoRuns.{Start, Run as RunM, claim}
use Rattle.two_runs.proofs.Premises.{premises, runs_all, starts_all}
use Rattle.code_runs.specs.Made.{OnBoard}
use Rattle.code_runs.proofs.Witness.{party, start}
use Rattle.c_runs.specs.CRuns.{Run}
use Rattle.c_runs.specs.Made.{Ask, Says, our_ask, their_ask, bytes_of, made, moves, own_says, spelt, steps}
use Rattle.c_runs.proofs.Witness.{ask, machine_runs_are_runs_of_C}

-- as in Witness.antt, and another's request waits for channel 3
abbrev unsettled : StateM
unsettled =
    record {
      channels = start.channels;
      locks = [];
      waiters = [];
      waiting = record { id = 40; key = 7; prec = 100; impatient = false; combos = 8 ∷ [] } ∷ [];
      opens = 1 ∷ [];
      last = 7;
    }

-- K stops channel 0; before that, another reads channel 2
abbrev stops : Ask
stops = ask 6 9 1 0 1 []

abbrev reads : Ask
reads = ask 2 21 4 0 7 []

abbrev alone : List Says
alone = our_ask stops ∷ []

abbrev after : List Says
after = their_ask reads ∷ our_ask stops ∷ []

board : OnBoard unsettled
board = record { sane = unfold machine in tt; size = tt }

pub begins : Start party unsettled
begins = starts_all party unsettled (unfold machine claim premises in tt)

alone_runs : RunM party unsettled (steps alone)
alone_runs = runs_all party unsettled (steps alone) (unfold machine claim premises in tt)

after_runs : RunM party unsettled (steps after)
after_runs = runs_all party unsettled (steps after) (unfold machine claim premises in tt)

pub both_run_lem : Run party (bytes_of unsettled) (table_of unsettled) (moves unsettled alone) × Run party (bytes_of unsettled) (table_of unsettled) (moves unsettled after)
both_run_lem = (machine_runs_are_runs_of_C party unsettled alone board alone_runs, machine_runs_are_runs_of_C party unsettled after board after_runs)

pub same_call : own_says alone ≡ own_says after
unfolding machine claim
same_call = refl

pub numbers_differ : (get_or (made unsettled stops).answer 7 0 ≡ 1) × (get_or (made (call unsettled (spelt reads)).next stops).answer 7 0 ≡ 0)
unfolding machine answer_bytes
numbers_differ = (refl, refl)
