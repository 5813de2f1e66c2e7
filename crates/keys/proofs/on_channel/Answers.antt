-- `on_channel` meets its contract: no channel passed has the key. Assumes nothing.
use mathlib.Core.Path.{refl, sym, ◌∙◌}
use Rattle.keys.proofs.Turns.{channel_here, channel_turn, channel_end}
use borrow.Author.Rules.{rules}
use Rattle.keys.proofs.on_channel.Goals as goal

pub loop-c-init : goal.loop-c-init
loop-c-init c = refl

pub returns-then-c-k : goal.returns-then-c-k
returns-then-c-k c =
    let l = c.loop-c in
    sym (channel_here _ _ l.c-index _ (search rules) c.if-c-k.true) ∙ l.invariant

pub loop-c-preserved : goal.loop-c-preserved
loop-c-preserved c =
    let l = c.loop-c in
    sym (channel_turn _ _ l.c-index _ (search rules) c.if-c-k.false) ∙ l.invariant

pub returns : goal.returns
returns c =
    let l = c.loop-c in
    sym (channel_end _ _ l.c-index (search rules)) ∙ l.invariant
