-- `refusal` meets its contract: each verdict is the machine's. Assumes nothing.
use Prim.Native.Nat.{◌≤◌, ◌<◌}
use mathlib.Core.Logic.{inl, inr}
use Rattle.board.proofs.Laws.{held_length, held_opens-count}
use Rattle.refusals.proofs.Laws.{no_room, open_told, close_told, abort_told, cycle_told, up_told, command-told}
use borrow.Author.Rules.{rules}
use Rattle.refusals.proofs.refusal.Goals as goal

pub returns-then-room-lt-REPLIES_SIZE : goal.returns-then-room-lt-REPLIES_SIZE
returns-then-room-lt-REPLIES_SIZE c = let l : c.args.room < 384 = search rules in no_room c.requires l

pub verdict_close-requires : goal.verdict_close-requires
verdict_close-requires c = (held_opens-count c.requires).1

pub verdict_command-requires : goal.verdict_command-requires
verdict_command-requires c = held_length c.requires

pub returns-in-Open : goal.returns-in-Open
returns-in-Open c =
    let l : 384 ≤ c.args.room = search rules in
    rw c.in-Open.is (open_told c.requires l c.top-top.ensures c.verdict_open.ensures)

pub returns-in-Close : goal.returns-in-Close
returns-in-Close c =
    let l : 384 ≤ c.args.room = search rules in
    rw c.in-Close.is (close_told c.requires l c.top-top.ensures c.verdict_close.ensures)

pub returns-in-Abort : goal.returns-in-Abort
returns-in-Abort c =
    let l : 384 ≤ c.args.room = search rules in
    rw c.in-Abort.is (abort_told c.requires l c.top-top.ensures c.verdict_id.ensures)

pub returns-in-CycleEnded : goal.returns-in-CycleEnded
returns-in-CycleEnded c =
    let l : 384 ≤ c.args.room = search rules in
    elim c.in-CycleEnded.is [
      | inl e ↦ rw e (cycle_told c.requires l c.top-top.ensures c.bad_map.ensures)
      | inr e ↦ rw e (up_told c.requires l c.top-top.ensures c.bad_map.ensures)
    ]

pub returns-in-Command : goal.returns-in-Command
returns-in-Command c =
    let l : 384 ≤ c.args.room = search rules in
    rw c.in-Command.is (command-told c.requires l c.top-top.ensures c.verdict_command.ensures)
