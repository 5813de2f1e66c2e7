-- `read` meets its contract: the answer, and the reply that goes with it. Assumes nothing.
use Rattle.answers.specs.Answers.{call_of}
use mathlib.Core.List.{[]}
use Prim.Native.Nat.{◌≤◌}
use lib.ListN.{length}
use native.Mathlib.Omega.{arith}
use Rattle.answers.specs.store.Store.{state_in}
use Rattle.table.proofs.memory.Splice.{splice_none}
use Rattle.answers.proofs.Laws.{finished_of, finished-told, told_as}
use Rattle.granting.proofs.Laws.{held_channels}
use Rattle.play.proofs.Laws.{read_finishes}
use mathlib.Core.Path.{refl, sym}
use Rattle.play.proofs.read.Goals as goal

pub read_answer-a-requires : goal.read_answer-a-requires
read_answer-a-requires c = c.requires.0.held.eight

pub finished-requires : goal.finished-requires
finished-requires c = let p = c.requires in omega (arith, p.0.room)

pub returns : goal.returns
returns c =
    let a = c.args in
    let u = state_in a.s a.table.now in
    let h = c.requires.0.held in
    told_as (read_finishes (call_of a.r []) u)
    (finished-told [] _ [] u 2 c.requires.1 (c.read_answer-a.ensures u (held_channels h)) h.struct h.table (sym (splice_none _ _)) refl (let z : 0 ≤ length a.replies.now = omega arith in z) (finished_of c.finished.ensures))
