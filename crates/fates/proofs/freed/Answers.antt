-- `freed` meets its contract: the mask says what one map leaves of another. Assumes nothing.
use mathlib.Core.Path.{refl, sym, ◌∙◌}
use borrow.Author.Tests.{ne_eqb}
use Rattle.fates.specs.Fates.{ends_at, map_at, error_of}
use Rattle.fates.proofs.Bits.{and_minus}
use Rattle.fates.proofs.freed.Goals as goal

pub returns-then-emptied : goal.returns-then-emptied
unfolding ends_at map_at error_of
returns-then-emptied c =
    let a = c.args in
    let e = sym (and_minus 8 a.own a.m c.requires.0 c.requires.1) ∙ c.if-emptied.true in
    rw e refl

pub returns-else-emptied : goal.returns-else-emptied
unfolding ends_at map_at error_of
returns-else-emptied c =
    let a = c.args in
    rw (sym (and_minus 8 a.own a.m c.requires.0 c.requires.1), ne_eqb _ _ c.if-emptied.false) refl
