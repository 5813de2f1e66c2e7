-- Demand 3 on the code is about something: two runs of calls that keep the promise, from one board and one table, meet every
-- premise. In the busy one the others open with a list and steal channel 2, take channel 3, wait for channel 0 and close; in
-- the quiet one they do nothing. K sees the same bytes, those of a write's numbers and of who waits for its cycle among them, and the
-- two leave unlike boards and tables.
-- Assumes nothing.
use Prim.Native.Nat.{ℕ}
use mathlib.Core.Path.{◌≡◌, refl, sym, ◌∙◌}
use mathlib.Core.Bool.{false, ◌||◌}
use mathlib.Core.List.{List, [], ◌∷◌, ◌++◌}
use lib.Dec.{eqb}
use lib.ListN.{replicate}
use Rattle.answers.specs.machine.State.{Call, Op, OPEN, CLOSE, EVENT, CYCLE_ENDED, COMMAND, State as StateM, free}
use Rattle.answers.specs.machine.Desks.{desk_of}
use Rattle.answers.specs.machine.Machine.{machine}
use Rattle.answers.specs.machine.Walks.{plays}
use Rattle.memory.specs.Splice.{block, splice}
use Rattle.open_keys.specs.OpenKeys.{keys_of}
use Rattle.table.specs.Entry.{number_bytes, write_entry, span_entry}
use Rattle.answers.specs.store.Store.{items, write_items, lookup, entries, table_of}
use Rattle.board.specs.Board.{struct_of}
use Rattle.two_runs.specs.TwoRuns.{Party, Start, Step, our, own, their, claim, Run as RunM}
use Rattle.two_runs.proofs.Premises.{premises, runs_all, starts_all}
use Rattle.code_runs.specs.CodeRuns.{stored_of, all_records, state_after, table_after, Alike, code_claim}
use Rattle.code_runs.specs.Made.{OnBoard, moves}
use Rattle.code_runs.proofs.Made.{board_held, board-state, own_calls-moves, machine_runs_are_code_runs}
use Rattle.code_runs.proofs.Parts.{answers-replies-channels}

-- K is 1 and P is 10, which stands as 138
abbrev pub party : Party
party = record { key = 1; floor = 138; mine = λ i. eqb i 5 || eqb i 9 || eqb i 11 }

-- K on channels 0 and 1, with a write on 0; 2 another's; 3 free
abbrev pub start : StateM
start =
    record {
      channels =
          record { key = 1; prec = 138; locked = false; stopped = false; writes = plays 5 1 124 64 ∷ [] }
          ∷ record { key = 1; prec = 140; locked = false; stopped = false; writes = [] }
          ∷ record { key = 7; prec = 100; locked = false; stopped = false; writes = plays 20 0 65536 64 ∷ [] }
          ∷ free
          ∷ [];
      locks = [];
      waiters = [];
      waiting = [];
      opens = 1 ∷ [];
      last = 7;
    }

-- operation, id, map, precedence, key, combinations
abbrev pub ask : Op → ℕ → ℕ → ℕ → ℕ → List ℕ → Call
ask op i m p k l = record { op = op; desk = desk_of i; id = i; flags = 0; map = m; prec = p; key = k; combos = l; room = 64 }

-- two cycles at period 200 and volume 50
abbrev pub numbers : List ℕ
numbers = 0 ∷ 2 ∷ 0 ∷ 0 ∷ 200 ∷ 50 ∷ []

-- K writes on channel 1 and waits for a cycle there, its write on channel 0 ends, it stops both
abbrev quiet : List Step
quiet =
    our (ask (COMMAND 3) 9 2 128 1 numbers)
    ∷ our (ask (COMMAND 14) 11 2 128 1 [])
    ∷ our (ask (EVENT CYCLE_ENDED) 0 1 128 0 [])
    ∷ our (ask (COMMAND 6) 5 3 0 1 [])
    ∷ []

abbrev busy : List Step
busy =
    their (ask OPEN 0 0 138 0 (4 ∷ []))
    ∷ our (ask (COMMAND 3) 9 2 128 1 numbers)
    ∷ their (ask (COMMAND 32) 31 0 138 0 (8 ∷ []))
    ∷ our (ask (COMMAND 14) 11 2 128 1 [])
    ∷ their (ask (COMMAND 32) 32 0 138 0 (1 ∷ []))
    ∷ our (ask (EVENT CYCLE_ENDED) 0 1 128 0 [])
    ∷ their (ask CLOSE 0 0 0 8 [])
    ∷ our (ask (COMMAND 6) 5 3 0 1 [])
    ∷ []

pub board : OnBoard start
board = record { sane = unfold machine in tt; size = tt }

-- two runs of the machine that meet the premises are two such runs of the code
pub run_alike : (s : StateM) (xs ys : List Step) → OnBoard s → Start party s → RunM party s xs → RunM party s ys → own xs ≡ own ys
    → Alike party (struct_of s) (table_of s) (moves s xs) (moves s ys)
run_alike s xs ys b a r q e =
    answers-replies-channels party (struct_of s) (table_of s) (moves s xs) (moves s ys) (board_held b) (rw (board-state b) a)
    (machine_runs_are_code_runs party s xs b r) (machine_runs_are_code_runs party s ys b q)
    (own_calls-moves s xs ∙ (e ∙ sym (own_calls-moves s ys)))

pub alike : Alike party (struct_of start) (table_of start) (moves start quiet) (moves start busy)
alike =
    run_alike start quiet busy board (starts_all party start (unfold machine claim premises in tt)) (runs_all party start quiet (unfold machine claim premises in tt))
    (runs_all party start busy (unfold machine claim premises in tt)) (unfold claim in refl)

-- two records: the write that ended, and the STOP; id, command, error, map, key
pub bytes-seen : all_records party (moves start busy) ≡ (5 ∷ 3 ∷ 0 ∷ 1 ∷ 0 ∷ 1 ∷ []) ∷ (5 ∷ 6 ∷ 0 ∷ 3 ∷ 0 ∷ 1 ∷ []) ∷ []
unfolding machine code_claim splice
bytes-seen = refl

-- what is stored of its channels in the end: the write with its numbers, and who waits for its cycle; id, command, key, map,
-- precedence, NOWAIT, count, and sixteen bytes
pub stored-seen : stored_of party (state_after (struct_of start) (moves start busy)) (table_after (table_of start) (moves start busy))
    ≡ (9 ∷ 3 ∷ 0 ∷ 1 ∷ 0 ∷ 0 ∷ 0 ∷ 12 ∷ numbers ++ replicate 10 0) ∷ (11 ∷ 14 ∷ 0 ∷ 1 ∷ 2 ∷ replicate 19 0) ∷ []
unfolding machine code_claim splice table_of entries lookup items write_items write_entry number_bytes span_entry block
stored-seen = refl

-- and the runs end unlike: the others closed the key that they had opened, but keys were issued
pub quiet_end : ((state_after (struct_of start) (moves start quiet)).state.opens ≡ keys_of (1 ∷ [])) × ((state_after (struct_of start) (moves start quiet)).state.last ≡ 7)
unfolding machine code_claim
quiet_end = (refl, refl)

pub busy_end : ((state_after (struct_of start) (moves start busy)).state.opens ≡ keys_of (1 ∷ [])) × ((state_after (struct_of start) (moves start busy)).state.last ≡ 9)
unfolding machine code_claim
busy_end = (refl, refl)
