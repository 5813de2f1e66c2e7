-- `blank` meets its contract: each return is a case of the definition; the ranges are those of the types. Assumes nothing.
use mathlib.Core.Bool.{true}
use borrow.Author.Tests.{le-leb, eq-eqb, ne_eqb}
use Prim.Native.Nat.{◌≤◌}
use mathlib.Core.Path.{◌≡◌}
use lib.ListN.{length}
use Rattle.shapes.specs.Shapes.{blank}
use Rattle.shapes.proofs.Cases.{none_written}
use borrow.Author.Rules.{rules}
use Rattle.shapes.proofs.blank.Goals as goal

pub returns-then-c-ne0 : goal.returns-then-c-ne0
unfolding blank
returns-then-c-ne0 c =
    let k = c.args.c in
    let a : k.key ≤ 65535 = search rules in
    let b : k.prec ≤ 255 = search rules in
    rw (ne_eqb _ _ c.if-c-ne0.true, le-leb _ _ a, le-leb _ _ b)

pub returns-then-c-ne128 : goal.returns-then-c-ne128
unfolding blank
returns-then-c-ne128 c = rw (eq-eqb _ _ c.if-c-ne0.false, ne_eqb _ _ c.if-c-ne128.true)

pub returns-then-c : goal.returns-then-c
unfolding blank
returns-then-c c = rw (eq-eqb _ _ c.if-c-ne0.false, eq-eqb _ _ c.if-c-ne128.false, c.if-c.true)

pub returns-then-c-2 : goal.returns-then-c-2
unfolding blank
returns-then-c-2 c =
    let k = c.args.c in
    let h : k.stopped ≡ true = c.if-c-2.true in
    rw (eq-eqb _ _ c.if-c-ne0.false, eq-eqb _ _ c.if-c-ne128.false, c.if-c.false, h)

pub returns : goal.returns
unfolding blank
returns c =
    let k = c.args.c in
    let z : length k.writes.ids ≡ 64 = search rules in
    rw (eq-eqb _ _ c.if-c-ne0.false, eq-eqb _ _ c.if-c-ne128.false, c.if-c.false, c.if-c-2.false) (none_written k.writes.n k.writes.ids z)
