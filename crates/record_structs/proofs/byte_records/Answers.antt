-- `byte_records` meets its contract: no byte is lent for a list that is too short, and all 256 for any other. Assumes nothing.
use mathlib.Core.Path.{refl, sym}
use lib.Seq.{length-take-le}
use Rattle.record_structs.proofs.Listed.{part_lent, filled}
use Rattle.record_structs.proofs.byte_records.Goals as goal

pub slice_bounds-bytes-end : goal.slice_bounds-bytes-end
slice_bounds-bytes-end c = part_lent c.bytes_for-k.ensures

pub slice_bounds-waiting-end : goal.slice_bounds-waiting-end
slice_bounds-waiting-end c = sym (length-take-le _ _ (part_lent c.bytes_for-k.ensures))

pub returns : goal.returns
returns c = filled c.bytes_for-k.ensures _ refl c.waiting-listed.ensures
