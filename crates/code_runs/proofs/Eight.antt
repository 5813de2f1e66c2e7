-- The same on a board of eight channels: K on channels 6 and 7, and the others on 4 and 5, by maps that a board of four refuses.
-- Assumes nothing.
use Prim.Native.Nat.{ℕ}
use mathlib.Core.Path.{◌≡◌, refl}
use mathlib.Core.Bool.{false}
use mathlib.Core.List.{List, [], ◌∷◌}
use Rattle.answers.specs.machine.State.{OPEN, CLOSE, EVENT, CYCLE_ENDED, COMMAND, State as StateM, free}
use Rattle.answers.specs.machine.Machine.{machine}
use Rattle.answers.specs.machine.Walks.{plays}
use Rattle.memory.specs.Splice.{splice}
use Rattle.answers.specs.store.Store.{table_of}
use Rattle.board.specs.Board.{struct_of}
use Rattle.two_runs.specs.TwoRuns.{Step, our, their, claim}
use Rattle.two_runs.proofs.Premises.{premises, runs_all, starts_all}
use Rattle.code_runs.specs.CodeRuns.{all_records, Alike, code_claim}
use Rattle.code_runs.specs.Made.{OnBoard, moves}
use Rattle.code_runs.proofs.Witness.{party, ask, numbers, run_alike}

abbrev start : StateM
start =
    record {
      channels =
          free
          ∷ free
          ∷ free
          ∷ free
          ∷ record { key = 7; prec = 100; locked = false; stopped = false; writes = plays 20 0 65536 64 ∷ [] }
          ∷ free
          ∷ record { key = 1; prec = 138; locked = false; stopped = false; writes = plays 5 1 124 64 ∷ [] }
          ∷ record { key = 1; prec = 140; locked = false; stopped = false; writes = [] }
          ∷ [];
      locks = [];
      waiters = [];
      waiting = [];
      opens = 1 ∷ [];
      last = 7;
    }

abbrev quiet : List Step
quiet =
    our (ask (COMMAND 3) 9 128 128 1 numbers)
    ∷ our (ask (COMMAND 14) 11 128 128 1 [])
    ∷ our (ask (EVENT CYCLE_ENDED) 0 64 128 0 [])
    ∷ our (ask (COMMAND 6) 5 192 0 1 [])
    ∷ []

abbrev busy : List Step
busy =
    their (ask OPEN 0 0 138 0 (16 ∷ []))
    ∷ our (ask (COMMAND 3) 9 128 128 1 numbers)
    ∷ our (ask (COMMAND 14) 11 128 128 1 [])
    ∷ their (ask (COMMAND 32) 31 0 138 0 (32 ∷ []))
    ∷ their (ask (COMMAND 32) 32 0 138 0 (64 ∷ []))
    ∷ our (ask (EVENT CYCLE_ENDED) 0 64 128 0 [])
    ∷ their (ask CLOSE 0 0 0 8 [])
    ∷ our (ask (COMMAND 6) 5 192 0 1 [])
    ∷ []

pub alike : Alike party (struct_of start) (table_of start) (moves start quiet) (moves start busy)
alike =
    run_alike start quiet busy (record { sane = unfold machine in tt; size = tt }) (starts_all party start (unfold machine claim premises in tt))
    (runs_all party start quiet (unfold machine claim premises in tt)) (runs_all party start busy (unfold machine claim premises in tt)) (unfold claim in refl)

-- two records: the write that ended, and the STOP; id, command, error, map, key
pub bytes-seen : all_records party (moves start busy) ≡ (5 ∷ 3 ∷ 0 ∷ 64 ∷ 0 ∷ 1 ∷ []) ∷ (5 ∷ 6 ∷ 0 ∷ 192 ∷ 0 ∷ 1 ∷ []) ∷ []
unfolding machine code_claim splice
bytes-seen = refl
