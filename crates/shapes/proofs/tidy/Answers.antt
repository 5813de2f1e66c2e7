-- `tidy` meets its contract: the count first, then each id behind it, or one that is not 0 is found. Assumes nothing.
use Rattle.std.proofs.Common.{rules, ◌≡◌, ℕ, ◌-◌, ◌<◌, length, take, drop}
use mathlib.Core.Path.{ap, sym, ◌∙◌}
use lib.ListN.{length-drop}
use lib.Seq.{take-length}
use borrow.Author.Tests.{le-leb, lt-leb, eq-eqb}
use Rattle.store.specs.machine.Lists.{all}
use Rattle.shapes.specs.Shapes.{is_zero, tidy}
use Rattle.shapes.proofs.tidy.Goals as goal

pub returns-then-q-gt-REQUESTS : goal.returns-then-q-gt-REQUESTS
unfolding tidy
returns-then-q-gt-REQUESTS c =
    let h : 64 < c.args.q.n = search rules in
    rw (lt-leb _ _ h)

pub returns : goal.returns
unfolding tidy
returns c =
    let q = c.args.q in
    let z : length q.ids ≡ 64 = search rules in
    let ns = take (64 - q.n) (drop q.n q.ids) in
    let l : ns ≡ drop q.n q.ids = ap (λ (m : ℕ). take m (drop q.n q.ids)) (sym (rw z at (length-drop q.n q.ids))) ∙ take-length (drop q.n q.ids) in
    rw (le-leb _ _ c.if-q-gt-REQUESTS.false, eq-eqb _ _ z) (c.zeros.ensures ∙ ap (all is_zero) l)
