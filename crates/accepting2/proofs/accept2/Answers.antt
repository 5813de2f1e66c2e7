-- `accept2` meets its contract: what is found is handed back, and of a text that is none a table of zeros. Assumes nothing.
use mathlib.Core.Path.{ap, ◌∙◌}
use lib.ListN.{length}
use Rattle.saving2.proofs.accepting.Accepting.{settled}
use Rattle.accepting2.specs.Accepting2.{Yes2, No2}
use Rattle.accepting2.proofs.accept2.Goals as goal

pub or_cleared-requires : goal.or_cleared-requires
or_cleared-requires c = c.compare2-found.auto.table ∙ ap length c.requires.1

pub returns : goal.returns
returns c =
    let w = c.args.width in
    let t = c.args.text.now in
    rw c.or_cleared.ensures.0 (settled (No2 w t) (Yes2 w t) c.compare2-found.result _ _ c.compare2-found.ensures c.or_cleared.ensures.1)
