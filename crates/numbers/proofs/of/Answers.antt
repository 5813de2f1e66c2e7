-- `of` meets its contract: six bytes are the numbers that they carry, and none are 1, 124 and 64. Assumes nothing.
use mathlib.Core.Path.{sym}
use mathlib.Core.Logic.{⊎_elim}
use Rattle.numbers.proofs.Laws.{of_six, of_none}
use borrow.Author.Rules.{rules}
use Rattle.numbers.proofs.of.Goals as goal

pub returns-then-combos-eq6 : goal.returns-then-combos-eq6
returns-then-combos-eq6 c =
    let e = c.byte-then-combos-eq6-5.ensures in
    let d = c.byte-then-combos-eq6-4.ensures in
    let g = c.byte-then-combos-eq6-3.ensures in
    let h = c.byte-then-combos-eq6-2.ensures in
    let i = c.byte-then-combos-eq6.ensures in
    let j = c.byte.ensures in
    rw (e.0, d.0, g.0, h.0, i.0, j.0) (sym (of_six _ (search rules) (rw (← i.0) i.1) (rw (← g.0) g.1) (rw (← d.0) d.1)))

pub returns : goal.returns
returns c =
    let n = c.if-combos-eq6.false in
    sym (of_none _ (⊎_elim (λ e. e) (λ e. absurd (n e)) c.requires))
