-- `lock` meets its contract: all channels asked for match exactly where the map that matches is the one asked for. Assumes nothing.
use mathlib.Core.Path.{◌≡◌}
use native.Mathlib.Omega.{arith}
use borrow.Author.Tests.{eq-eqb, ne_eqb}
use Rattle.locking.proofs.Locking.{told-refused, told_none, told-lock}
use Rattle.locking.proofs.lock.Goals as goal

pub returns-then-ok-r : goal.returns-then-ok-r
returns-then-ok-r c =
    let p = c.requires in
    let own = c.matching-ok in
    let ok = own.result in
    let t = c.if-ok-r.true in
    let n : ok ≡ c.args.r.map → ⊥ = λ e. omega (arith, t, e) in
    told-refused c.args.r p.0.held p.1 p.4 own.ensures p.0 c.finished.ensures (ne_eqb _ _ n) c.done-a.ensures

pub returns-then-r-eq0 : goal.returns-then-r-eq0
returns-then-r-eq0 c =
    let p = c.requires in
    let own = c.matching-ok in
    let ok = own.result in
    let t = c.if-ok-r.false in
    let z : c.args.r.map ≡ 0 = omega (arith, c.if-r-eq0.true) in
    let q : ok ≡ c.args.r.map = omega (arith, t) in
    told_none c.args.r p.0.held p.1 p.4 own.ensures p.0 c.finished-then-r-eq0.ensures (eq-eqb _ _ q) (eq-eqb _ _ z) c.done-a-then-r-eq0.ensures

pub returns : goal.returns
returns c =
    let p = c.requires in
    let own = c.matching-ok in
    let q : own.result ≡ c.args.r.map = omega (arith, c.if-ok-r.false) in
    let n : c.args.r.map ≡ 0 → ⊥ = λ e. omega (arith, c.if-r-eq0.false, e) in
    told-lock c.args.r p.0.held p.1 p.4 own.ensures (eq-eqb _ _ q) (ne_eqb _ _ n) c.enter-t.ensures c.pending-a.ensures
