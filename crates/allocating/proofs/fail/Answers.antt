-- `fail` meets its contract: with NOWAIT it is answered -11, without it `wait` does the rest. Assumes nothing.
use Prim.Native.Nat.{◌≤◌}
use mathlib.Core.Path.{refl, sym}
use mathlib.Core.List.{[]}
use native.Mathlib.Omega.{arith}
use lib.ListN.{length}
use Rattle.memory.proofs.Splice.{splice_none}
use Rattle.answers.specs.store.Store.{state_in}
use Rattle.answers.specs.Answers.{call_of}
use Rattle.answers.proofs.Laws.{finished_of, finished-told, told_as}
use Rattle.allocating.proofs.Steps.{fail_refused, fail_waits}
use Rattle.allocating.proofs.fail.Goals as goal

pub returns-then-r-eq1 : goal.returns-then-r-eq1
returns-then-r-eq1 c =
    let a = c.args in
    let h = c.requires.0.held in
    let u = state_in a.s a.table.now in
    told_as (fail_refused (call_of a.r a.combos.now) u c.if-r-eq1.true)
    (finished-told a.combos.now _ [] u 32 c.requires.1 c.done-no.ensures h.struct h.table (sym (splice_none _ _)) refl (let z : 0 ≤ length a.replies.now = omega arith in z) (finished_of c.finished.ensures))

pub returns : goal.returns
returns c =
    let a = c.args in
    told_as (fail_waits (call_of a.r a.combos.now) (state_in a.s a.table.now) c.if-r-eq1.false) (c.wait.ensures a.replies.now)
