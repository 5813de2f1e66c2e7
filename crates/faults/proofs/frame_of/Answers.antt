-- `frame_of` meets its contract: its tests are those of the definition, in order. Assumes nothing.
use Prim.Native.Nat.{◌<◌}
use mathlib.Core.Path.{refl, ap, ◌∙◌}
use lib.Dec.{eqb}
use lib.ListN.{length}
use Rattle.std.specs.Option.{option_eq}
use Rattle.std.specs.Prelude.{Some}
use Rattle.faults.proofs.Laws.{told_eq, first, later_none, later_some}
use borrow.Author.Rules.{rules}
use Rattle.faults.proofs.frame_of.Goals as goal

pub returns-then-k-eq0 : goal.returns-then-k-eq0
returns-then-k-eq0 c = c.eq.ensures ∙ first _ _ _ c.if-k-eq0.true

pub returns-then-f-eq0 : goal.returns-then-f-eq0
returns-then-f-eq0 c = later_none _ _ _ c.if-k-eq0.false c.if-f-eq0.true

pub returns : goal.returns
returns c =
    let some : 0 < length c.args.f.now = search rules in
    c.eq-2.ensures
    ∙ (ap (option_eq eqb (Some (length c.args.f.now))) c.length_in.ensures
    ∙ (told_eq _ some ∙ later_some _ _ _ c.if-k-eq0.false some refl))
