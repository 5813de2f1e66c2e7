-- `told` meets its contract: the mask says whether two maps share a channel. Assumes nothing.
use mathlib.Core.Path.{refl, sym}
use borrow.Author.Tests.{ne_eqb}
use Rattle.fates.proofs.Bits.{and_meets}
use Rattle.fates.proofs.told.Goals as goal

pub returns-then-shared : goal.returns-then-shared
returns-then-shared c =
    let a = c.args in
    rw (sym (and_meets 8 a.own a.m c.requires.0 c.requires.1), ne_eqb _ _ c.if-shared.true) refl

pub returns-else-shared : goal.returns-else-shared
returns-else-shared c =
    let a = c.args in
    rw (sym (and_meets 8 a.own a.m c.requires.0 c.requires.1), c.if-shared.false) refl
