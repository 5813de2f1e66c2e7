-- `pick` meets its contract: another desk's record is left out, and the desk's own is put in. Assumes nothing.
use mathlib.Core.Path.{sym, ◌∙◌}
use Rattle.halves.proofs.Laws.{one_mine, part_six, left_out, put_in}
use Rattle.halves.proofs.pick.Goals as goal

pub returns-then-of-desk : goal.returns-then-of-desk
returns-then-of-desk c =
    let s = c.args in
    left_out s.half.now s.at s.desk s.made.now s.i (λ e. c.if-of-desk.true (c.of.ensures ∙ e))

pub copy-requires : goal.copy-requires
copy-requires c =
    let a = c.args in
    let e = one_mine a.desk a.made.now a.i (sym c.of.ensures ∙ c.if-of-desk.false) in
    let h = c.requires.1 in
    rw (part_six a.made.now a.i, ← e) h

pub returns : goal.returns
returns c =
    let a = c.args in
    put_in a.half.now a.at a.desk a.made.now a.i
    (sym c.of.ensures ∙ c.if-of-desk.false) c.requires.0 c.copy.ensures
