-- `spelt` meets its contract: the iterator's test of each byte is the line's. Assumes nothing.
use Rattle.std.proofs.Common.{rules}
use Rattle.std.proofs.iter.runs.Made.{chains}
use Rattle.digits.proofs.Laws.{tested, even_spells, odd_spells}
use Rattle.digits.proofs.spelt.Goals as goal

pub returns-then-line-eq0 : goal.returns-then-line-eq0
returns-then-line-eq0 c =
    let l = c.args.line.now in
    even_spells l c.all.result c.if-line-eq0.true (tested l c.all.result (search (rules, chains)) (search (rules, chains)))

pub returns-else-line-eq0 : goal.returns-else-line-eq0
returns-else-line-eq0 c = odd_spells c.args.line.now c.if-line-eq0.false
