-- `or_cleared` meets its contract: where nothing was found, the table was filled with zeros. Assumes nothing.
use mathlib.Core.Path.{refl, ap, ◌∙◌}
use lib.ListN.{replicate}
use Rattle.accepting.proofs.Accepting.{cleared}
use Rattle.accepting.proofs.or_cleared.Goals as goal

pub returns-then-is_none : goal.returns-then-is_none
returns-then-is_none c =
    (refl, cleared c.args.found c.args.table.now c.if-is_none.ensures (c.fill.ensures.after (λ y h. h) ∙ ap (λ n. replicate n 0) c.requires))
