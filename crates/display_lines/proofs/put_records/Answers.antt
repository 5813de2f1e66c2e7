-- `put_records` meets its contract: a struct's line stands behind those of the structs before it. Assumes nothing.
use Prim.Native.Nat.{◌<◌}
use mathlib.Core.Path.{◌≡◌, refl, ap, sym, ◌∙◌}
use native.Mathlib.Omega.{arith}
use lib.ListN.{length}
use lib.Seq.{take_all}
use Rattle.spelling.specs.memory.Splice.{splice}
use Rattle.spelling.proofs.memory.Splice.{splice_none}
use Rattle.display_lines.specs.DisplayLines.{record_lines}
use Rattle.display_lines.proofs.DisplayLines.{record_turn}
use borrow.Author.Rules.{rules}
use Rattle.display_lines.proofs.put_records.Goals as goal

pub loop-i-init : goal.loop-i-init
unfolding record_lines
loop-i-init c = (search rules, refl, sym (splice_none _ _))

pub loop-i-preserved : goal.loop-i-preserved
loop-i-preserved c =
    let l = c.loop-i in
    let v = l.invariant in
    let a = c.args in
    let h : l.i < length a.list.now = omega arith in
    let k = v.0 in (
      v.0,
      omega (arith, v.1),
      rw (c.put_waiter.ensures, v.2) (record_turn a.out.now a.at a.list.now l.i _ _ h (omega arith) (omega arith)),
    )

pub returns : goal.returns
returns c =
    let l = c.loop-i in
    let a = c.args in
    let e : l.i ≡ length a.list.now = omega arith in
    l.invariant.2 ∙ ap (λ ws. splice a.out.now a.at (record_lines ws)) (take_all l.i a.list.now (omega arith))
