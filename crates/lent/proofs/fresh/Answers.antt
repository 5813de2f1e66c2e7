-- `fresh` meets its contract: zeros, the eight precedences, the number of channels. Assumes nothing.
use Prim.Native.Nat.{ℕ}
use mathlib.Core.Path.{◌≡◌, ap, sym, subst, ◌∙◌}
use mathlib.Core.List.{List}
use native.Mathlib.Omega.{arith}
use lib.ListN.{set}
use Rattle.lent.specs.Lent.{PutFresh}
use Rattle.lent.proofs.Anew.{precs, put-fresh}
use Rattle.lent.proofs.fresh.Goals as goal

pub returns : goal.returns
returns c =
    let a = c.args in
    let l = c.loop-i in
    let eight : l.i ≡ 8 = omega arith in
    subst (λ (x : List ℕ). PutFresh a.width (set x 822 a.width)) (sym (l.invariant ∙ ap (λ (i : ℕ). precs i c.clear.new.list) eight))
    (put-fresh a.state.now _ a.width c.requires c.ranges.width.fits c.clear.ensures)
