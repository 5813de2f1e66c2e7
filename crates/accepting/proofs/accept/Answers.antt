-- `accept` meets its contract: what is found is handed back, and of a text that is none a table of zeros. Assumes nothing.
use mathlib.Core.Path.{ap, ◌∙◌}
use lib.ListN.{length}
use Rattle.accepting.specs.Accepting.{Yes, No}
use Rattle.accepting.proofs.Accepting.{settled}
use Rattle.accepting.proofs.accept.Goals as goal

pub or_cleared-requires : goal.or_cleared-requires
or_cleared-requires c = c.compare-found.auto.table ∙ ap length c.requires

pub returns : goal.returns
returns c =
    let t = c.args.text.now in
    rw c.or_cleared.ensures.0 (settled (No t) (Yes t) c.compare-found.result _ _ c.compare-found.ensures c.or_cleared.ensures.1)
