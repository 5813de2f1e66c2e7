-- `which` meets its contract: the bits found and what the channels from i on add make the map. Assumes nothing.
use mathlib.Core.Path.{sym, ◌∙◌}
use native.Mathlib.Omega.{arith}
use Rattle.channel.proofs.Turns.{matched_start, matched_hit, matched_miss, matched_end}
use borrow.Author.Rules.{rules}
use Rattle.fronts.proofs.which.Goals.{then-hit, else-hit}
use Rattle.fronts.proofs.which.Goals as goal

pub loop-i-init : goal.loop-i-init
loop-i-init c = matched_start _ _ _

pub loop-i-preserved : goal.loop-i-preserved
loop-i-preserved c =
    let l = c.loop-i in
    let e = c.hit.ensures in
    elim c.if-hit.branch [
      | then-hit w ↦ rw w.ok-is (matched_hit _ l.invariant (search rules) (omega arith) (sym e ∙ w.if-hit.true))
      | else-hit w ↦ rw w.ok-is (matched_miss _ l.invariant (search rules) (sym e ∙ w.if-hit.false))
    ]

pub returns : goal.returns
returns c = matched_end c.loop-i.invariant (search rules)
