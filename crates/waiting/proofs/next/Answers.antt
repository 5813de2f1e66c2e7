-- `next` meets its contract: nothing comes of the requests passed, and each is read from its entry. Assumes nothing.
use Prim.Native.Nat.{max}
use mathlib.Core.Path.{◌≡◌, ap₂, ◌∙◌}
use native.Mathlib.Omega.{arith}
use Rattle.store.specs.machine.Choosing.{look}
use Rattle.choosing.specs.Choosing.{look_of}
use Rattle.waiting.proofs.Finding.{passing_start, passing_more, finds_here, finds_end, comes_is}
use borrow.Author.Rules.{rules}
use Rattle.waiting.proofs.next.Goals as goal

pub loop-at-init : goal.loop-at-init
loop-at-init c = passing_start _ _ _ _

pub bounds-q-at : goal.bounds-q-at
bounds-q-at c = let p = c.requires in omega (arith, p.few)

pub prec-prec-requires : goal.prec-prec-requires
prec-prec-requires c = let p = c.requires in (p.small _ (search rules), p.long)

pub combos-requires : goal.combos-requires
combos-requires c = let p = c.requires in (p.small _ (search rules), p.long, p.lists _ (search rules))

pub impatient-requires : goal.impatient-requires
impatient-requires c = let p = c.requires in (p.small _ (search rules), p.long)

pub returns-then-stops : goal.returns-then-stops
returns-then-stops c cs s =
    let e = c.look_by-l.ensures cs s ∙ ap₂ (λ p ms. look_of (look p ms cs)) c.prec-prec.ensures c.combos.ensures in
    finds_here c.loop-at.invariant cs s (search rules) e (comes_is _ _ e c.impatient.ensures c.stops.ensures c.if-stops.true)

pub loop-at-preserved : goal.loop-at-preserved
loop-at-preserved c =
    passing_more c.loop-at.invariant (search rules)
    (λ cs s. comes_is _ _ (c.look_by-l.ensures cs s ∙ ap₂ (λ p ms. look_of (look p ms cs)) c.prec-prec.ensures c.combos.ensures) c.impatient.ensures c.stops.ensures c.if-stops.false)

pub returns : goal.returns
returns c cs s =
    let l = c.loop-at in
    let e : l.at ≡ max c.args.from c.args.q.n = let p = l.invariant in omega (arith, p.after, p.within) in
    rw (c.max.ensures, ← e) (finds_end l.invariant cs s (search rules))
