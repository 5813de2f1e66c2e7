-- `same` meets its contract: what was gathered so far, and the test of the bytes left, are the test of all. Assumes nothing.
use Rattle.memory.proofs.Splice.{block_byte}
use Rattle.entries.proofs.Cases.{length-entry}
use Rattle.entries.proofs.Turns.{alike_start, alike_more, alike_end}
use borrow.Author.Rules.{rules}
use Rattle.entries.proofs.same.Goals as goal

pub loop-k-init : goal.loop-k-init
loop-k-init c = alike_start _ _

pub loop-k-preserved : goal.loop-k-preserved
loop-k-preserved c =
    let a = c.args in
    let h = length-entry a.table.now a.id c.requires.0 c.requires.1 in
    alike_more c.loop-k.invariant (search rules) (search rules) (block_byte 23 a.table.now a.id c.loop-k.k (search rules))

pub returns : goal.returns
returns c =
    let a = c.args in
    let h = length-entry a.table.now a.id c.requires.0 c.requires.1 in
    alike_end c.loop-k.invariant (search rules) (search rules)
