-- `agrees` meets its contract: the sixteen numbers are compared with those of a count. Assumes nothing.
use mathlib.Core.Path.{sym}
use native.Mathlib.Omega.{arith}
use lib.Seq.{length-take-le}
use Rattle.accepting.proofs.Accepting.{false_true}
use Rattle.saving2.proofs.Laws2.{counted-numbers, numbers_agree}
use borrow.Author.Rules.{rules}
use Rattle.saving2.proofs.agrees.Goals as goal

pub returns-then-display-ne18 : goal.returns-then-display-ne18
returns-then-display-ne18 c =
    let a = c.args in
    record { only = λ z. absurd (false_true z); always = λ g. let l = g.size in absurd (omega arith) }

pub slice_bounds-same-end : goal.slice_bounds-same-end
slice_bounds-same-end c = sym (length-take-le _ c.args.display.now (omega arith))

pub slice_bounds-same-end-2 : goal.slice_bounds-same-end-2
slice_bounds-same-end-2 c = sym (length-take-le _ c.recount.new.display (search rules))

pub returns : goal.returns
returns c = numbers_agree _ (omega arith) (counted-numbers _ c.recount.ensures) c.same.ensures
