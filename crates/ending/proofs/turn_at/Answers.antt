-- `turn_at` meets its contract: the entry's twelve bytes are copied, and tell the turn. Assumes nothing.
use mathlib.Core.Path.{ap, ◌∙◌}
use native.Mathlib.Omega.{arith}
use lib.ListN.{length}
use Rattle.tuning.proofs.Turns.{list-long, copied}
use Rattle.tuning.specs.cycles.Cycles.{turn_in}
use Rattle.ending.proofs.turn_at.Goals as goal

pub copy-requires : goal.copy-requires
copy-requires c =
    let n = ap length c.combos.ensures ∙ list-long _ c.args.id c.requires.0 c.requires.1 c.requires.2 in
    omega arith

pub returns : goal.returns
returns c =
    let n = ap length c.combos.ensures ∙ list-long _ c.args.id c.requires.0 c.requires.1 c.requires.2 in
    c.turn_of.ensures ∙ ap turn_in (c.copy.ensures ∙ copied _ n ∙ c.combos.ensures)
