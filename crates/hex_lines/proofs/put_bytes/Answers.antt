-- `put_bytes` meets its contract: a byte's two digits stand behind those of the bytes before it. Assumes nothing.
use Prim.Native.Nat.{◌-◌, ◌<◌}
use mathlib.Core.Path.{refl, ap, sym, ◌∙◌}
use native.Mathlib.Omega.{arith}
use lib.ListN.{length}
use lib.Seq.{take_all}
use Rattle.spelling.specs.memory.Splice.{splice}
use Rattle.spelling.proofs.memory.Splice.{splice_none}
use Rattle.spelling.specs.Spelling.{digits}
use Rattle.hex_lines.proofs.HexLines.{digits_turn}
use borrow.Author.Rules.{rules}
use Rattle.hex_lines.proofs.put_bytes.Goals as goal

pub loop-i-init : goal.loop-i-init
loop-i-init c = (omega arith, search rules, refl, sym (splice_none _ _))

pub loop-i-preserved : goal.loop-i-preserved
loop-i-preserved c =
    let l = c.loop-i in
    let a = c.args in
    let h : l.i < length a.bs.now = search rules in
    (omega arith, l.invariant.1, omega arith, rw (c.put_byte.ensures, l.invariant.3) (digits_turn a.out.now a.at a.bs.now l.i _ h l.invariant.1))

pub returns : goal.returns
returns c =
    let l = c.loop-i in
    let a = c.args in
    l.invariant.3 ∙ ap (λ bs. splice a.out.now a.at (digits bs)) (take_all l.i a.bs.now (omega arith))
