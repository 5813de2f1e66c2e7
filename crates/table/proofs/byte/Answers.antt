-- `byte` meets its contract: byte k of record id stands at id * 23 + k. Assumes nothing.
use mathlib.Core.Path.{sym}
use Rattle.memory.proofs.Splice.{block_byte}
use borrow.Author.Rules.{rules}
use Rattle.table.proofs.byte.Goals as goal

pub returns : goal.returns
returns c = let a = c.args in sym (block_byte 23 a.table.now a.id a.k (search rules))
