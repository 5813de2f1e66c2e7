-- `each_once` meets its contract: after m turns each map below m that meets the wish stands once.
-- Assumes nothing.
use mathlib.Core.Path.{sym, ◌∙◌}
use Rattle.stereo.proofs.Turns.{once_start, once_hit, once_miss, once_stop, once_end}
use borrow.Author.Rules.{rules}
use Rattle.stereo.proofs.each_once.Goals.{else-meets, then-meets+else-times-ne1}
use Rattle.stereo.proofs.each_once.Goals as goal

pub loop-map-init : goal.loop-map-init
loop-map-init c = once_start _ _ _

pub returns-then-times-ne1 : goal.returns-then-times-ne1
returns-then-times-ne1 c =
    let l = c.loop-map in
    once_stop l.invariant (search rules) _ c.meets.ensures c.if-meets.true
    (λ e. c.if-times-ne1.true (c.times.ensures ∙ e))

pub loop-map-preserved : goal.loop-map-preserved
loop-map-preserved c =
    let l = c.loop-map in
    elim c.if-meets.branch [
      | then-meets+else-times-ne1 w ↦ once_hit l.invariant (search rules) _ c.meets.ensures w.if-meets.true (sym w.times.ensures ∙ w.if-times-ne1.false)
      | else-meets w ↦ once_miss l.invariant (search rules) _ c.meets.ensures w.if-meets.false
    ]

pub returns : goal.returns
returns c = once_end c.loop-map.invariant (search rules)
