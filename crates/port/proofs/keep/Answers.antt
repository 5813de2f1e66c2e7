-- `keep` meets its contract: two stores, one behind the other, over the whole port. Assumes nothing.
use borrow.Author.Rules.{rules}
use native.Mathlib.Omega.{arith}
use Rattle.port.proofs.Laws.{port_kept}
use Rattle.port.proofs.keep.Goals as goal

pub returns : goal.returns
returns c =
    let a = c.args in
    port_kept a.port.now a.line.now a.n _ c.requires.0 (search rules) (omega arith) c.put_key.ensures c.copy.ensures
