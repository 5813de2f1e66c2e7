-- `perform` meets its contract: what is not refused is what each operation asks for. Assumes nothing.
use Rattle.answers.proofs.Laws.{told_as}
use Rattle.operations.proofs.Laws.{open_as, close_as, abort_as, cycle_as, up_as, command_as, allowed_open, allowed_close, allowed_abort, allowed_cycle, allowed_up, allowed-command}
use Rattle.operations.proofs.perform.Goals as goal

pub open-requires : goal.open-requires
open-requires c =
    let e = c.in-Open.is in
    let p = c.requires in
    allowed_open (rw e at p)

pub close-requires : goal.close-requires
close-requires c =
    let e = c.in-Close.is in
    let p = c.requires in
    allowed_close (rw e at p)

pub abort-requires : goal.abort-requires
abort-requires c =
    let e = c.in-Abort.is in
    let p = c.requires in
    allowed_abort (rw e at p)

pub cycle_ended-requires : goal.cycle_ended-requires
cycle_ended-requires c =
    let e = c.in-CycleEnded.is in
    let p = c.requires in
    allowed_cycle (rw e at p)

pub gave_up-requires : goal.gave_up-requires
gave_up-requires c =
    let e = c.in-GaveUp.is in
    let p = c.requires in
    allowed_up (rw e at p)

pub command-requires : goal.command-requires
command-requires c =
    let e = c.in-Command.is in
    let p = c.requires in
    allowed-command (rw e at p)

pub returns-in-Open : goal.returns-in-Open
returns-in-Open c = rw c.in-Open.is (told_as (open_as c.args.r _ _ _) c.open.ensures)

pub returns-in-Close : goal.returns-in-Close
returns-in-Close c = rw c.in-Close.is (told_as (close_as c.args.r _ _ _) c.close.ensures)

pub returns-in-Abort : goal.returns-in-Abort
returns-in-Abort c = rw c.in-Abort.is (told_as (abort_as c.args.r _ _ _) c.abort.ensures)

pub returns-in-CycleEnded : goal.returns-in-CycleEnded
returns-in-CycleEnded c = rw c.in-CycleEnded.is (told_as (cycle_as c.args.r _ _ _) c.cycle_ended.ensures)

pub returns-in-GaveUp : goal.returns-in-GaveUp
returns-in-GaveUp c = rw c.in-GaveUp.is (told_as (up_as c.args.r _ _ _) c.gave_up.ensures)

pub returns-in-Command : goal.returns-in-Command
returns-in-Command c = rw c.in-Command.is (told_as (command_as c.args.r _ _ _ _) c.command.ensures)
