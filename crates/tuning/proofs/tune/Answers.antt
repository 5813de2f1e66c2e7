-- `tune` meets its contract: the entry's twelve bytes are copied, retuned and written back under the same key. Assumes nothing.
use native.Mathlib.Omega.{arith}
use mathlib.Core.Path.{ap, ◌∙◌}
use lib.ListN.{length}
use Rattle.tuning.proofs.Turns.{list-long, tuned_is}
use Rattle.tuning.proofs.tune.Goals as goal

pub copy-requires : goal.copy-requires
copy-requires c =
    let n = ap length c.combos.ensures ∙ list-long _ c.args.id c.requires.0 c.requires.1 c.requires.2 in
    omega arith

pub returns : goal.returns
returns c =
    let n = ap length c.combos.ensures ∙ list-long _ c.args.id c.requires.0 c.requires.1 c.requires.2 in
    c.put_all.ensures
    ∙ tuned_is c.args.how c.args.new _ c.args.id _ _ _ _ n c.key-key.ensures c.combos.ensures c.copy.ensures c.retuned-c.ensures
