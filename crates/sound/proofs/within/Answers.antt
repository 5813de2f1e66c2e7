-- `within` meets its contract: its steps are those of the test, and the test decides what is asked (Laws.antt). Assumes nothing.
use mathlib.Core.Path.{ap, sym, ◌∙◌}
use Rattle.std.specs.Prelude.{is_ok}
use Rattle.table_rest.proofs.placing.Cases.{tidied, shape}
use Rattle.sound.proofs.Laws.{yes_T, deciding, waiting-low, not_long, not_shaped, not_placed, not_falling, rest-tells}
use borrow.Author.Rules.{rules}
use Rattle.sound.proofs.within.Goals as goal

pub returns-then-table-ne1472 : goal.returns-then-table-ne1472
returns-then-table-ne1472 c = deciding _ _ _ (search rules) (not_long _ _ _ c.if-table-ne1472.true)

pub returns-then-not-shaped : goal.returns-then-not-shaped
returns-then-not-shaped c = deciding _ _ _ (search rules) (not_shaped _ _ _ c.if-table-ne1472.false (sym c.shaped.ensures ∙ c.if-not-shaped.true))

pub place_all-requires : goal.place_all-requires
place_all-requires c = (yes_T _ (sym c.shaped.ensures ∙ c.if-not-shaped.false), c.if-table-ne1472.false)

pub returns-in-Err : goal.returns-in-Err
returns-in-Err c =
    let s = sym c.shaped.ensures ∙ c.if-not-shaped.false in
    deciding _ _ _ (search rules) (not_placed _ _ _ c.if-table-ne1472.false s (sym c.place_all.ensures ∙ c.in-Err.is))

pub falling-requires : goal.falling-requires
falling-requires c =
    let s = sym c.shaped.ensures ∙ c.if-not-shaped.false in
    let o = yes_T _ (ap is_ok (sym c.place_all.ensures ∙ c.in-Ok.is)) in
    ((tidied _ (shape _ (yes_T _ s)).waiting_ok).few, c.if-table-ne1472.false, waiting-low _ _ _ o)

pub returns-else-falling : goal.returns-else-falling
returns-else-falling c =
    let s = sym c.shaped.ensures ∙ c.if-not-shaped.false in
    deciding _ _ _ (search rules) (c.if-falling.false ∙ not_falling _ _ _ c.if-table-ne1472.false s (sym c.place_all.ensures ∙ c.in-Ok.is) (sym c.falling.ensures ∙ c.if-falling.false))

pub returns-then-falling : goal.returns-then-falling
returns-then-falling c =
    let s = sym c.shaped.ensures ∙ c.if-not-shaped.false in
    deciding _ _ _ (search rules) (rest-tells _ _ _ c.if-table-ne1472.false s (sym c.place_all.ensures ∙ c.in-Ok.is) (sym c.falling.ensures ∙ c.if-falling.true) c.rest_idle.ensures)
