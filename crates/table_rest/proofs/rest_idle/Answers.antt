-- `rest_idle` meets its contract: the test of the ids left, from the last to the first, is the test of all. Assumes nothing.
use Prim.Native.Nat.{suc, ◌-◌}
use mathlib.Core.Path.{◌≡◌, refl, sym, ◌∙◌}
use mathlib.Core.Bool.{true, false}
use borrow.Author.Rules.{rules}
use Rattle.table_rest.specs.TableRest.{rest_idle}
use Rattle.table_rest.proofs.Turns.{told, idle-seen, idle_stop, idle_more, eight-least, eight_stop, eight_more}
use Rattle.table_rest.proofs.rest_idle.Goals as goal

pub loop-i-init : goal.loop-i-init
loop-i-init c = (search rules, refl)

pub loop-i-preserved-then-seen-i-ne0 : goal.loop-i-preserved-then-seen-i-ne0
loop-i-preserved-then-seen-i-ne0 c =
    let l = c.loop-i in
    let s : l.i ≡ suc (l.i - 1) = search rules in
    (search rules, idle-seen _ _ c.requires _ _ s c.if-seen-i-ne0.true ∙ l.invariant.1)

pub overflow_sub-i-then-eight : goal.overflow_sub-i-then-eight
overflow_sub-i-then-eight c =
    eight-least c.args.table.now
    c.args.seen
    c.requires _ c.loop-i.invariant.0
    (told c.eight.ensures c.if-eight.true)

pub returns-then-not-none : goal.returns-then-not-none
returns-then-not-none c =
    let l = c.loop-i in
    eight_stop _ _ c.requires l.i l.invariant.0
    (told c.eight.ensures c.if-eight.true)
    (sym c.none.ensures ∙ c.if-not-none.true) ∙ l.invariant.1

pub loop-i-preserved-else-not-none : goal.loop-i-preserved-else-not-none
loop-i-preserved-else-not-none c =
    let l = c.loop-i in (
      search rules,
      eight_more _ _ c.requires l.i l.invariant.0
          (told c.eight.ensures c.if-eight.true)
          (sym c.none.ensures ∙ c.if-not-none.false) ∙ l.invariant.1,
    )

pub returns-then-not-is_idle : goal.returns-then-not-is_idle
returns-then-not-is_idle c =
    let l = c.loop-i in
    let s : l.i ≡ suc (l.i - 1) = search rules in
    idle_stop _ _ c.requires l.i l.invariant.0 _ s
    c.if-seen-i-ne0.false (sym c.is_idle.ensures ∙ c.if-not-is_idle.true) ∙ l.invariant.1

pub loop-i-preserved : goal.loop-i-preserved
loop-i-preserved c =
    let l = c.loop-i in
    let s : l.i ≡ suc (l.i - 1) = search rules in (
      search rules,
      idle_more _ _ c.requires l.i l.invariant.0 _ s
          c.if-seen-i-ne0.false (sym c.is_idle.ensures ∙ c.if-not-is_idle.false)
          ∙ l.invariant.1,
    )

pub returns : goal.returns
unfolding rest_idle
returns c =
    let l = c.loop-i in
    let e : l.i ≡ 0 = search rules in
    (rw e at l.invariant.1)
