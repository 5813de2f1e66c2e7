-- `correct` meets its contract: after c turns the numbers of the first c channels are corrected. Assumes nothing.
use Prim.Native.Nat.{ℕ, ◌+◌, ◌-◌, ◌*◌, ◌%◌, ◌<◌}
use mathlib.Core.Path.{◌≡◌, ap, ap₂, sym, ◌∙◌}
use mathlib.Core.List.{List}
use native.Mathlib.Nat.{div-one}
use native.Mathlib.Omega.{arith}
use lib.ListN.{length, take}
use Rattle.table.specs.memory.Splice.{splice}
use Rattle.channel_numbers.specs.ChannelNumbers.{count_at, moved}
use Rattle.channel_numbers.proofs.Laws.{corrected_start, corrected_two, lanes_next}
use borrow.Author.Rules.{rules}
use Rattle.channel_numbers.proofs.correct.Goals as goal

pub loop-c-init : goal.loop-c-init
loop-c-init c =
    let a = c.args in (
      c.requires,
      c.requires,
      sym (div-one a.left),
      sym (div-one a.joined),
      corrected_start c.lengths-old.result c.lengths-new.result a.left a.joined a.display.now,
    )

pub loop-c-preserved : goal.loop-c-preserved
loop-c-preserved c =
    let l = c.loop-c in
    let a = c.args in
    let h : 2 * l.c + 1 < length a.display.now = omega (arith, l.invariant.0) in
    let e = lanes_next a.left l.less l.c l.invariant.2 in
    let f = lanes_next a.joined l.more l.c l.invariant.3 in
    (l.invariant.0, search rules, e, f, corrected_two c.lengths-old.result c.lengths-new.result a.left a.joined a.display.now l.c _ _ l.invariant.4 h c.put.ensures c.put-in-loop-c.ensures (ap (λ (x : ℕ). x % 256) l.invariant.3) (ap (λ (x : ℕ). x % 256) l.invariant.2))

pub returns : goal.returns
returns c =
    let l = c.loop-c in
    let a = c.args in
    let e : l.c ≡ 8 = search rules in
    let f : 2 * l.c ≡ 16 = omega (arith, e) in
    let old = c.lengths-old in
    let new = c.lengths-new in
    let d = a.display.now in
    l.invariant.4
    ∙ (ap (λ (n : ℕ). splice d 0 (moved (count_at new.result a.joined) (count_at old.result a.left) 0 (take n d))) f
    ∙ ap₂ (λ (x y : List ℕ). splice d 0 (moved (count_at x a.joined) (count_at y a.left) 0 (take 16 d))) new.ensures
    old.ensures)
