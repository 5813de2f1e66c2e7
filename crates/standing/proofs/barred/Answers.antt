-- `barred` meets its contract: of the allocated channels, those that are not below the precedence. Assumes nothing.
use native.Mathlib.Omega.{arith}
use borrow.Author.Tests.{lt-ltb, le-ltb}
use Rattle.standing.proofs.Turns.{barred_by, marked_start, marked_more, marked_skip, marked_end}
use borrow.Author.Rules.{rules}
use Rattle.standing.proofs.barred.Goals.{then-p-prec, else-p-prec}
use Rattle.standing.proofs.barred.Goals as goal

pub loop-i-init : goal.loop-i-init
loop-i-init c = marked_start

pub loop-i-preserved : goal.loop-i-preserved
loop-i-preserved c =
    let t = c.loop-i.invariant in
    elim c.if-p-prec.branch [
      | then-p-prec w ↦ rw w.high-is (marked_more t 0 (search rules) (search rules) (le-ltb _ _ w.if-p-prec.true))
      | else-p-prec w ↦ rw w.high-is (marked_skip t 0 (search rules) (lt-ltb _ _ w.if-p-prec.false))
    ]

pub returns : goal.returns
returns c cs s = barred_by _ _ cs s (marked_end c.loop-i.invariant (search rules))
