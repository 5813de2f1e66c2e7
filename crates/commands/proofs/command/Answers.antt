-- `command` meets its contract: the function of each command does what the machine does by its number. Assumes nothing.
use mathlib.Core.Path.{refl}
use native.Mathlib.Omega.{arith}
use Rattle.answers.proofs.Laws.{told_as}
use Rattle.sounding.proofs.changing.Laws.{ready_abort, ready_free}
use Rattle.sounding.proofs.Laws.{finish_listless}
use Rattle.commands.proofs.Laws.{numbered, known_ok, on_map, is_reset, is_read, is_write, is_update, is_clear, is_stop, is_start, is_flush, is_free, is_setprec, is_lock, is_wait, is_allocate}
use Rattle.commands.proofs.command.Goals as goal

pub unwrap-requires : goal.unwrap-requires
unwrap-requires c = known_ok _ _ c.requires.known c.try_from.ensures

pub drop_each-requires : goal.drop_each-requires
drop_each-requires c =
    let e = numbered _ _ _ c.try_from.ensures c.in-Reset.ensures in
    let a = on_map c.requires (λ w. absurd (omega arith)) in
    (ready_abort a _, a.map, λ x. refl)

pub drop_each-requires-in-Flush : goal.drop_each-requires-in-Flush
drop_each-requires-in-Flush c =
    let e = numbered _ _ _ c.try_from.ensures c.in-Flush.ensures in
    let a = on_map c.requires (λ w. absurd (omega arith)) in
    (ready_abort a _, a.map, λ x. refl)

pub free-requires : goal.free-requires
free-requires c =
    let e = numbered _ _ _ c.try_from.ensures c.in-Free.ensures in
    let a = on_map c.requires (λ w. absurd (omega arith)) in
    (ready_free a _, a.map, e)

pub returns-in-Reset : goal.returns-in-Reset
returns-in-Reset c = told_as (is_reset c.args.r _ _ _ (numbered _ _ _ c.try_from.ensures c.in-Reset.ensures)) c.drop_each.ensures

pub returns-in-Read : goal.returns-in-Read
returns-in-Read c = told_as (is_read c.args.r _ _ _ (numbered _ _ _ c.try_from.ensures c.in-Read.ensures)) c.read.ensures

pub returns-in-Write : goal.returns-in-Write
returns-in-Write c = told_as (is_write c.args.r _ _ _ (numbered _ _ _ c.try_from.ensures c.in-Write.ensures)) c.write.ensures

pub returns-in-Update : goal.returns-in-Update
returns-in-Update c = told_as (is_update c.args.r _ _ _ (numbered _ _ _ c.try_from.ensures c.in-Update.ensures)) c.mark_each.ensures

pub returns-in-Clear : goal.returns-in-Clear
returns-in-Clear c = told_as (is_clear c.args.r _ _ _ (numbered _ _ _ c.try_from.ensures c.in-Clear.ensures)) c.mark_each-in-Clear.ensures

pub returns-in-Stop : goal.returns-in-Stop
returns-in-Stop c = told_as (is_stop c.args.r _ _ _ (numbered _ _ _ c.try_from.ensures c.in-Stop.ensures)) c.mark_each-in-Stop.ensures

pub returns-in-Start : goal.returns-in-Start
returns-in-Start c = told_as (is_start c.args.r _ _ _ (numbered _ _ _ c.try_from.ensures c.in-Start.ensures)) c.mark_each-in-Start.ensures

pub returns-in-Flush : goal.returns-in-Flush
returns-in-Flush c = told_as (is_flush c.args.r _ _ _ (numbered _ _ _ c.try_from.ensures c.in-Flush.ensures)) c.drop_each-in-Flush.ensures

pub returns-in-Free : goal.returns-in-Free
returns-in-Free c = told_as (is_free c.args.r _ _ _ (numbered _ _ _ c.try_from.ensures c.in-Free.ensures)) c.free.ensures

pub returns-in-SetPrec : goal.returns-in-SetPrec
returns-in-SetPrec c = told_as (is_setprec c.args.r _ _ _ (numbered _ _ _ c.try_from.ensures c.in-SetPrec.ensures)) c.mark_each-in-SetPrec.ensures

pub returns-in-Finish : goal.returns-in-Finish
returns-in-Finish c = told_as (finish_listless c.args.r _ _ _ (numbered _ _ _ c.try_from.ensures c.in-Finish.ensures)) c.finish.ensures

pub returns-in-Lock : goal.returns-in-Lock
returns-in-Lock c = told_as (is_lock c.args.r _ _ _ (numbered _ _ _ c.try_from.ensures c.in-Lock.ensures)) c.lock.ensures

pub returns-in-WaitCycle : goal.returns-in-WaitCycle
returns-in-WaitCycle c = told_as (is_wait c.args.r _ _ _ (numbered _ _ _ c.try_from.ensures c.in-WaitCycle.ensures)) c.wait_cycle.ensures

pub returns-in-Allocate : goal.returns-in-Allocate
returns-in-Allocate c = told_as (is_allocate c.args.r _ _ _ (numbered _ _ _ c.try_from.ensures c.in-Allocate.ensures)) c.allocate.ensures
