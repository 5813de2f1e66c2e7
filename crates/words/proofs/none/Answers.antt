use Prim.Native.Nat.{ℕ, ◌*◌}
use mathlib.Core.Path.{◌≡◌, ap, ◌∙◌}
use lib.ListN.{take, drop}
use Rattle.words.specs.Words.{zeros}
use borrow.Author.Rules.{rules}
use Rattle.words.proofs.Laws.{gathered_start, gathered_more}
use Rattle.words.proofs.none.Goals as goal

pub loop-i-init : goal.loop-i-init
loop-i-init c = gathered_start _ _

pub loop-i-preserved : goal.loop-i-preserved
loop-i-preserved c = let l = c.loop-i in gathered_more _ _ l.i l.invariant c.at-all.ensures

pub returns : goal.returns
returns c =
    let l = c.loop-i in
    let a = c.args in
    let e : l.i ≡ a.n = search rules in
    l.invariant.so ∙ ap (λ (i : ℕ). zeros (take (i * 8) (drop a.k a.list.now))) e
