-- `put_all` meets its contract: after i turns the lines of the first i records stand in front. Assumes nothing.
use mathlib.Core.Path.{◌≡◌, refl, sym}
use native.Mathlib.Omega.{arith}
use Rattle.spelling.proofs.memory.Splice.{splice_none}
use Rattle.lines.specs.Lines.{record_lines}
use Rattle.lines.proofs.Laws.{record_turn, answer_last}
use Rattle.lines.proofs.put_all.Goals as goal

pub loop-i-init : goal.loop-i-init
unfolding record_lines
loop-i-init c = (omega arith, refl, sym (splice_none _ _))

pub loop-i-preserved : goal.loop-i-preserved
loop-i-preserved c =
    let l = c.loop-i in
    let a = c.args in
    (omega arith, omega arith, rw (c.put_record.ensures, l.invariant.2) (record_turn a.out.now a.replies.now l.i (omega arith) (omega arith)))

pub returns : goal.returns
returns c =
    let l = c.loop-i in
    let a = c.args in
    let e : l.i ≡ a.n = omega arith in
    rw (c.put_answer.ensures, l.invariant.2, e) (answer_last a.out.now a.replies.now a.n a.a (omega arith) (omega arith))
