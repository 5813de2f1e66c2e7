-- `spell` meets its contract: the lines of the structs stand behind that of the numbers. Assumes nothing.
use Rattle.display_lines.proofs.DisplayLines.{spelt}
use borrow.Author.Rules.{rules}
use Rattle.display_lines.proofs.spell.Goals as goal

pub returns : goal.returns
returns c =
    let p = c.requires in
    spelt _ p.0 p.1 (search rules) (search rules) (search rules) c.put_load.ensures c.put_records.ensures
