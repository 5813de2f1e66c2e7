-- `write` meets its contract: a caller's own channel gets the write; another's gives -10. Assumes nothing.
use Prim.Native.Nat.{◌≤◌}
use mathlib.Core.Path.{refl, sym}
use mathlib.Core.List.{[]}
use native.Mathlib.Omega.{arith}
use lib.ListN.{length}
use Rattle.memory.proofs.Splice.{splice_none}
use Rattle.answers.specs.store.Store.{state_in}
use Rattle.answers.proofs.Laws.{finished_of, finished-told, told_as}
use Rattle.play.proofs.Places.{some_at, none_at}
use Rattle.writing.proofs.Steps.{write_refused, write_told}
use Rattle.writing.proofs.write.Goals as goal

pub returns-in_default : goal.returns-in_default
returns-in_default c =
    let a = c.args in
    let h = c.requires.0.held in
    let ms = a.combos.now in
    told_as (write_refused h a.r ms _ refl (none_at _ c.in_default.ensures))
    (finished-told ms _ [] (state_in a.s a.table.now) 3 c.requires.1 c.done-no.ensures h.struct h.table (sym (splice_none _ _)) refl (let z : 0 ≤ length a.replies.now = omega arith in z) (finished_of c.finished.ensures))

pub returns : goal.returns
returns c =
    let p = c.requires in
    let j = c.join-t.ensures in
    let found = some_at _ _ c.in-Some.ensures in
    write_told p.0.held c.args.r c.args.combos.now p.2 p.3 _ found.0 found.1 c.pending-a.ensures j.0 j.1
