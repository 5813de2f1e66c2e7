-- `add` meets its contract: the table is tidy, so the key stands behind the others. Assumes nothing.
use borrow.Author.Rules.{rules}
use Rattle.open_keys.proofs.Laws.{add_tidy}
use Rattle.open_keys.proofs.Keys.add.Goals as goal

pub returns : goal.returns
returns c = rw c.from.ensures (add_tidy c.args.self (search rules) c.args.key (search rules))
