-- `wait_cycle` meets its contract, case by case: another's channel, an idle one, one with a write in progress. Assumes nothing.
use Prim.Native.Nat.{ℕ, ◌≤◌}
use mathlib.Core.Path.{refl, ap, sym, ◌∙◌}
use mathlib.Core.List.{[]}
use native.Mathlib.Omega.{arith}
use lib.ListN.{length}
use Rattle.table.proofs.memory.Splice.{splice_none}
use Rattle.answers.specs.machine.Commands.{done}
use Rattle.answers.specs.store.Store.{state_in}
use Rattle.answers.specs.Answers.{answer_of}
use Rattle.answers.proofs.Laws.{finished_of, finished-told, told_as}
use Rattle.play.proofs.Places.{some_at, none_at}
use Rattle.awaiting.proofs.Awaiting.{wait-refused, wait-idle, wait-told}
use Rattle.awaiting.proofs.wait_cycle.Goals as goal

pub returns-in_default : goal.returns-in_default
returns-in_default c =
    let a = c.args in
    let h = c.requires.0.held in
    told_as (wait-refused h a.r _ refl (none_at _ c.in_default.ensures))
    (finished-told [] _ [] (state_in a.s a.table.now) 14 c.requires.1 c.done-no.ensures h.struct h.table (sym (splice_none _ _)) refl (let z : 0 ≤ length a.replies.now = omega arith in z) (finished_of c.finished.ensures))

pub returns-then-not-plays : goal.returns-then-not-plays
returns-then-not-plays c =
    let a = c.args in
    let h = c.requires.0.held in
    let b = c.bit-b.ensures in
    let f = some_at _ _ c.in-Some.ensures in
    told_as (wait-idle h a.r _ f.0 f.1 _ _ c.plays.ensures (c.if-not-plays.true))
    (finished-told [] _ [] (state_in a.s a.table.now) 14 c.requires.1 (c.done-a.ensures ∙ ap (λ (x : ℕ). answer_of (done 0 x a.r.key 255)) b) h.struct h.table (sym (splice_none _ _)) refl (let z : 0 ≤ length a.replies.now = omega arith in z) (finished_of c.finished-then-not-plays.ensures))

pub returns : goal.returns
returns c =
    let h = c.requires.0.held in
    let f = some_at _ _ c.in-Some.ensures in
    wait-told h c.args.r _ f.0 f.1 _ _ c.plays.ensures (c.if-not-plays.false) c.bit-b.ensures c.pending-a.ensures c.enter-t.ensures
