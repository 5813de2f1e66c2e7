-- `locked` meets its contract: the test of the channels left is the test of all. Assumes nothing.
use mathlib.Core.Path.{sym, ◌∙◌}
use Rattle.store.specs.machine.State.{free}
use Rattle.channel.specs.Channel.{channel_of}
use Rattle.span_entries.proofs.Turns.{tested_start, tested_stop, tested_more, tested-skip, tested_end}
use borrow.Author.Rules.{rules}
use Rattle.span_entries.proofs.locked.Goals.{else-names-via-then-names+else-not-owned, else-names-via-else-names}
use Rattle.span_entries.proofs.locked.Goals as goal

pub loop-i-init : goal.loop-i-init
loop-i-init c = λ f. tested_start f _ _ _

pub returns-then-not-owned : goal.returns-then-not-owned
returns-then-not-owned c = λ f. tested_stop (c.loop-i.invariant f) _ (search rules) (sym c.names.ensures ∙ c.if-names.true) (sym c.owned.ensures ∙ c.if-not-owned.true)

pub loop-i-preserved : goal.loop-i-preserved
loop-i-preserved c =
    let t = c.loop-i.invariant in
    let e = sym c.names.ensures in
    elim c.else-names.branch [
      | else-names-via-then-names+else-not-owned w ↦ λ f. tested_more (t f) _ (search rules) (e ∙ w.if-names.true) (sym w.owned.ensures ∙ w.if-not-owned.false)
      | else-names-via-else-names w ↦ λ f. tested-skip (t f) (channel_of free) (search rules) (e ∙ w.if-names.false)
    ]

pub returns : goal.returns
returns c = λ f. tested_end (c.loop-i.invariant f) (search rules)
