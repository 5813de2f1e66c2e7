-- Demand 3 of a desk on bytes is about something: the two runs of crates/two_runs, proofs/Desk.antt, as calls of a program in C. Desk B
-- reads, names an id of desk A's and gets 8, makes a call without room for an answer, a write of its own is given up, it stops; beside
-- it desk A names desk B's ids and gets 8, makes a call without room, takes two channels, and its own write ends. Desk B sees the same
-- bytes. Assumes nothing.
use Prim.Native.Nat.{ℕ}
use mathlib.Core.Path.{◌≡◌, refl, sym, ◌∙◌}
use mathlib.Core.Logic.{inl, inr}
use mathlib.Core.List.{List, [], ◌∷◌}
use Rattle.machine.specs.Machine.{machine}
use Rattle.image.specs.store.Store.{table_of}
use Rattle.two_runs.specs.TwoRuns.{claim}
use Rattle.two_runs.specs.Core.{misses}
use Rattle.two_runs.specs.Desk.{of_desk, from_other, spares, RunOfDesk}
use Rattle.two_runs.proofs.Desk.{begun, begins}
use Rattle.code_runs.specs.Made.{OnBoard}
use Rattle.code_runs.proofs.Made.{board-state}
use Rattle.c_runs.specs.CRuns.{sights}
use Rattle.c_runs.specs.Made.{Ask, Says, our_ask, their_ask, our_miss, their_miss, steps, moves, own_says, bytes_of}
use Rattle.c_runs.proofs.Witness.{bytes_whole, bytes-state, bytes_held, own_calls-moves, desk_runs_are_runs_of_C}
use Rattle.c_runs.proofs.Desk.{desk_sees_the_same_bytes}

-- desk, operation, id, map, precedence in two's complement, key, combinations
abbrev from : ℕ → ℕ → ℕ → ℕ → ℕ → ℕ → List ℕ → Ask
from d op i m p k l = record { desk = d; op = op; id = i; flags = 0; map = m; prec = p; key = k; combos = l }

abbrev alone : List Says
alone =
    our_ask (from 1 2 40 1 0 1 [])
    ∷ our_ask (from 1 3 2 1 0 1 [])
    ∷ our_miss
    ∷ our_ask (from 0 0xF4 0 1 0 0 [])
    ∷ our_ask (from 1 6 63 1 0 1 [])
    ∷ []

abbrev beside : List Says
beside =
    their_ask (from 0 0xF2 34 0 0 1 [])
    ∷ our_ask (from 1 2 40 1 0 1 [])
    ∷ their_ask (from 0 3 41 2 0 7 [])
    ∷ their_miss
    ∷ their_ask (from 0 32 3 0 10 0 (12 ∷ []))
    ∷ our_ask (from 1 3 2 1 0 1 [])
    ∷ our_miss
    ∷ their_ask (from 1 0xF4 33 2 0 1 [])
    ∷ our_ask (from 1 0xF4 9 3 0 0 [])
    ∷ our_ask (from 1 6 63 1 0 1 [])
    ∷ []

board : OnBoard begun
board = record { sane = unfold machine in tt; size = tt }

alone-keeps : RunOfDesk 1 (of_desk 1 1 138) begun (steps alone)
unfolding machine claim from_other spares misses
alone-keeps =
    record {
      keeps = (
        inl (record { party = tt; sends = tt; high = tt }),
        (inr tt, (inl (record { party = tt; sends = tt; high = tt }), (inl (record { party = tt; sends = tt; high = tt }), tt))),
      );
      full = tt;
      fits = tt;
    }

beside-keeps : RunOfDesk 1 (of_desk 1 1 138) begun (steps beside)
unfolding machine claim from_other spares misses
beside-keeps =
    record {
      keeps = (
        record { other = tt; apart = tt; low = tt },
        (
          inl (record { party = tt; sends = tt; high = tt }),
          (
            record { other = tt; apart = tt; low = tt },
            (
              record { other = tt; apart = tt; low = tt },
              (
                inr tt,
                (
                  record { other = tt; apart = tt; low = tt },
                  (inl (record { party = tt; sends = tt; high = tt }), (inl (record { party = tt; sends = tt; high = tt }), tt)),
                ),
              ),
            ),
          ),
        ),
      );
      full = tt;
      fits = tt;
    }

same_calls : own_says alone ≡ own_says beside
unfolding machine claim
same_calls = refl

pub alike : sights (of_desk 1 1 138) (bytes_of begun) (table_of begun) (moves begun alone) ≡ sights (of_desk 1 1 138) (bytes_of begun) (table_of begun) (moves begun beside)
alike =
    desk_sees_the_same_bytes 1 1 138 (bytes_of begun) (table_of begun) (moves begun alone) (moves begun beside) (bytes_whole board) (bytes_held board)
    (rw (bytes-state board, board-state board) begins) (desk_runs_are_runs_of_C 1 (of_desk 1 1 138) begun alone board alone-keeps)
    (desk_runs_are_runs_of_C 1 (of_desk 1 1 138) begun beside board beside-keeps) (own_calls-moves begun alone ∙ (same_calls ∙ sym (own_calls-moves begun beside)))
