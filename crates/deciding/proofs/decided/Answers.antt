-- `decided` meets its contract: refused, or performed and then settled but for an OPEN answered -11. Assumes nothing.
use mathlib.Core.Path.{sym, ◌∙◌}
use native.Mathlib.Omega.{arith}
use Rattle.answers.proofs.store.Store.{held_length}
use Rattle.deciding.proofs.Laws.{refused-told, zero_allowed, resting_told, settle-ready, settled_told, refused-looks}
use Rattle.deciding.proofs.Laws.{resting_looks, settled_looks, refused-moved, resting_moved, settled_moved}
use Rattle.deciding.proofs.Moves.{begin_abort, act_balanced, balanced_fits}
use Rattle.deciding.proofs.decided.Goals as goal

pub returns-then-e-ne0 : goal.returns-then-e-ne0
returns-then-e-ne0 c =
    let p = c.requires in
    (refused-told p c.if-e-ne0.true c.refuse-refused.ensures, refused-looks p c.if-e-ne0.true, refused-moved p c.if-e-ne0.true)

pub gone-aborted-requires : goal.gone-aborted-requires
gone-aborted-requires c = (held_length c.requires.held, λ q. begin_abort (zero_allowed c.requires c.if-e-ne0.false) q)

pub perform-d-requires : goal.perform-d-requires
perform-d-requires c = zero_allowed c.requires c.if-e-ne0.false

pub returns-then-rests : goal.returns-then-rests
returns-then-rests c =
    let a = zero_allowed c.requires c.if-e-ne0.false in
    let b = act_balanced a c.perform-d.ensures c.gone-aborted.ensures c.joined-more.ensures in
    let q = sym c.rests.ensures ∙ c.if-rests.true in (
      resting_told a c.perform-d.ensures c.if-e-ne0.false q,
      resting_looks a c.perform-d.ensures c.if-e-ne0.false q,
      resting_moved a
          c.perform-d.ensures c.if-e-ne0.false q c.joined-more.ensures b,
    )

pub settle-u-requires : goal.settle-u-requires
settle-u-requires c =
    let a = zero_allowed c.requires c.if-e-ne0.false in
    settle-ready a c.perform-d.ensures (sym c.rests.ensures ∙ c.if-rests.false) c.requires.range c.requires.bytes

pub overflow_add-result : goal.overflow_add-result
overflow_add-result c =
    let a = zero_allowed c.requires c.if-e-ne0.false in
    let b = act_balanced a c.perform-d.ensures c.gone-aborted.ensures c.joined-more.ensures in
    let q = sym c.rests.ensures ∙ c.if-rests.false in
    let m = settled_moved a c.perform-d.ensures q c.requires.range c.requires.bytes c.if-e-ne0.false _
    c.joined-more.ensures b c.settle-u.ensures.left in
    let k = balanced_fits a.held m.balance in
    omega (arith, k)

pub returns : goal.returns
returns c =
    let a = zero_allowed c.requires c.if-e-ne0.false in
    let b = act_balanced a c.perform-d.ensures c.gone-aborted.ensures c.joined-more.ensures in
    let q = sym c.rests.ensures ∙ c.if-rests.false in
    let m = settled_moved a c.perform-d.ensures q c.requires.range c.requires.bytes c.if-e-ne0.false _
    c.joined-more.ensures b c.settle-u.ensures.left in (
      settled_told a c.perform-d.ensures q c.requires.range c.requires.bytes c.settle-u.ensures.did c.if-e-ne0.false,
      settled_looks a c.perform-d.ensures c.requires.range c.requires.bytes _ c.if-e-ne0.false q c.settle-u.ensures.looks,
      m,
    )
