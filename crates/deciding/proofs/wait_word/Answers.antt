-- `wait_word` meets its contract: the combinations stand in the entry. Assumes nothing.
use mathlib.Core.Path.{refl, ap, sym, ◌∙◌}
use borrow.Author.Tests.{eq-eqb, ne_eqb}
use Rattle.settling.specs.lanes.Lanes.{word_of}
use Rattle.deciding.proofs.wait_word.Goals as goal

pub returns-then-command-ne-ADCMD_ALLOCATE : goal.returns-then-command-ne-ADCMD_ALLOCATE
returns-then-command-ne-ADCMD_ALLOCATE c = rw (ne_eqb _ 32 (λ e. c.if-command-ne-ADCMD_ALLOCATE.true (c.command.ensures ∙ e))) refl

pub combos-requires : goal.combos-requires
combos-requires c =
    let p = c.requires in
    (p.0, p.1, p.2 (eq-eqb _ 32 (sym c.command.ensures ∙ c.if-command-ne-ADCMD_ALLOCATE.false)))

pub returns : goal.returns
returns c = rw (eq-eqb _ 32 (sym c.command.ensures ∙ c.if-command-ne-ADCMD_ALLOCATE.false)) (c.word.ensures ∙ ap word_of c.combos.ensures)
