-- `on_waiting` meets its contract: no request passed has the key. Assumes nothing.
use mathlib.Core.Path.{refl, sym, ◌∙◌}
use Rattle.keys.proofs.Turns.{waiting_here, waiting_turn, waiting_end, small_at}
use borrow.Author.Rules.{rules}
use Rattle.keys.proofs.on_waiting.Goals as goal

pub loop-id-init : goal.loop-id-init
loop-id-init c = refl

pub key-requires : goal.key-requires
key-requires c = let q = c.requires in (small_at _ c.loop-id.id-index q.1 (search rules), q.2)

pub returns-then-key-k : goal.returns-then-key-k
returns-then-key-k c =
    let l = c.loop-id in
    sym (waiting_here _ _ _ l.id-index (search rules) (sym c.key.ensures ∙ c.if-key-k.true)) ∙ l.invariant

pub loop-id-preserved : goal.loop-id-preserved
loop-id-preserved c =
    let l = c.loop-id in
    sym (waiting_turn _ _ _ l.id-index (search rules) (λ f. c.if-key-k.false (c.key.ensures ∙ f))) ∙ l.invariant

pub returns : goal.returns
returns c =
    let l = c.loop-id in
    sym (waiting_end _ _ _ l.id-index (search rules)) ∙ l.invariant
