-- `one` meets its contract: what ends is replied and cleared, what stays is written anew and pushed. Assumes nothing.
use mathlib.Core.Path.{ap}
use lib.ListN.{length}
use native.Mathlib.Omega.{arith}
use Rattle.fates.specs.store.Store.{lock_in}
use Rattle.locks.proofs.Turns.{ending_one, fate_ends, fate_stays, step_gone, step_stays}
use Rattle.locks.proofs.one.Goals as goal

pub put-n-requires : goal.put-n-requires
put-n-requires c =
    let a = c.args in
    let l = lock_in a.table.now a.id in
    let j = fate_ends _ _ _ _ _ _ (rw c.map.ensures at c.in-Ends.ensures) in
    let f = ap length (ending_one a.how a.m l j.0) in
    let r = c.requires.room in
    omega arith

pub returns-in-Ends : goal.returns-in-Ends
returns-in-Ends c =
    let a = c.args in
    let l = lock_in a.table.now a.id in
    let j = fate_ends _ _ _ _ _ _ (rw c.map.ensures at c.in-Ends.ensures) in
    step_gone a.how a.m l a.s a.table.now a.replies.now j.0 _ _ _ _ _ _ _
    c.command-command.ensures j.1 j.2 c.key-key.ensures c.put-n.ensures.0
    c.clear.ensures c.put-n.ensures.1

pub returns-in-Stays : goal.returns-in-Stays
returns-in-Stays c =
    let a = c.args in
    let l = lock_in a.table.now a.id in
    let j = fate_stays _ _ _ _ _ (rw c.map.ensures at c.in-Stays.ensures) in
    step_stays a.how a.m l a.s a.table.now a.replies.now j.0 _ _ _ _ _
    c.command-command.ensures j.1 c.key-key.ensures c.push-left.ensures c.put.ensures
