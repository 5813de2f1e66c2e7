-- `writes_for` meets its contract: a queue has as many ids as it counts. Assumes nothing.
use mathlib.Core.Path.{◌≡◌, refl}
use lib.ListN.{length}
use borrow.Author.Rules.{rules}
use borrow.Author.Tests.{eq-eqb, ne_eqb}
use Rattle.shapes.proofs.Cases.{none_written}
use Rattle.span_entries.proofs.writes_for.Goals as goal

pub returns-then-c-key : goal.returns-then-c-key
returns-then-c-key c =
    let k = c.args.c in
    let z : length k.writes.ids ≡ 64 = search rules in
    rw (eq-eqb _ _ c.if-c-key.true, ← (none_written k.writes.n k.writes.ids z)) refl

pub returns-else-c-key : goal.returns-else-c-key
returns-else-c-key c = rw (ne_eqb _ _ c.if-c-key.false) refl
