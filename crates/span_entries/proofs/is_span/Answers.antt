-- `is_span` meets its contract: the bytes that it compares with are those of the entry of the lock or WAITCYCLE that is read. Assumes nothing.
use Rattle.table.specs.Entry.{span_entry}
use Rattle.span_entries.proofs.is_span.Goals as goal

pub returns : goal.returns
unfolding span_entry
returns c = rw (← c.key-key.ensures, ← c.map.ensures) c.same.ensures
