-- The claim is about something: desk A's ALLOCATE meets every premise on the bytes of the two states, so A gets the same. The same of
-- desk B, by CLOSE, on the bytes of the third state. Assumes nothing.
use mathlib.Core.Path.{◌≡◌, refl}
use mathlib.Core.List.{[]}
use Rattle.machine.specs.Desks.{DESK_A, DESK_B}
use Rattle.machine.specs.Log.{op_of}
use Rattle.machine.specs.Machine.{machine}
use Rattle.image.specs.store.Store.{table_of}
use Rattle.two_runs.specs.TwoRuns.{claim}
use Rattle.code_runs.specs.Made.{OnBoard}
use Rattle.code_runs.proofs.Made.{board-state}
use Rattle.one_desk.proofs.Witness.{busy, quiet, other, premises-met, premises-met_by_b}
use Rattle.c_runs.specs.OneDesk.{gets}
use Rattle.c_runs.specs.Made.{Ask, made, bytes_of}
use Rattle.c_runs.proofs.Witness.{made_took, made_roomy, bytes_whole, bytes-state, bytes_held}
use Rattle.c_runs.proofs.OneDeskExamples.{steals}
use Rattle.c_runs.proofs.OneDesk.{one_desk-bytes}

on_busy : OnBoard busy
on_busy = record { sane = unfold machine in tt; size = tt }

on_quiet : OnBoard quiet
on_quiet = record { sane = unfold machine in tt; size = tt }

on_other : OnBoard other
on_other = record { sane = unfold machine in tt; size = tt }

pub a_gets_the_same : gets DESK_A (made busy steals) ≡ gets DESK_A (made quiet steals)
unfolding op_of
a_gets_the_same =
    one_desk-bytes DESK_A (bytes_of busy) (table_of busy) (bytes_of quiet) (table_of quiet) (made busy steals) (made quiet steals)
    (bytes_whole on_busy) (bytes_held on_busy) (bytes_whole on_quiet) (bytes_held on_quiet)
    (made_took on_busy steals (unfold machine claim in tt)) (made_took on_quiet steals (unfold machine claim in tt))
    (made_roomy busy steals) (made_roomy quiet steals) refl
    (rw (bytes-state on_busy, board-state on_busy, bytes-state on_quiet, board-state on_quiet) premises-met)

-- CLOSE key 2
abbrev closes : Ask
closes = record { desk = 1; op = 0xF1; id = 0; flags = 0; map = 0; prec = 0; key = 2; combos = [] }

pub b_gets_the_same : gets DESK_B (made busy closes) ≡ gets DESK_B (made other closes)
unfolding op_of
b_gets_the_same =
    one_desk-bytes DESK_B (bytes_of busy) (table_of busy) (bytes_of other) (table_of other) (made busy closes) (made other closes)
    (bytes_whole on_busy) (bytes_held on_busy) (bytes_whole on_other) (bytes_held on_other)
    (made_took on_busy closes (unfold machine claim in tt)) (made_took on_other closes (unfold machine claim in tt))
    (made_roomy busy closes) (made_roomy other closes) refl
    (rw (bytes-state on_busy, board-state on_busy, bytes-state on_other, board-state on_other) premises-met_by_b)
