-- `show` meets its contract: the array is the display before, and the display is the array behind. Assumes nothing.
use Rattle.bytes_call.proofs.Laws.{shown_as}
use Rattle.bytes_call.proofs.show.Goals as goal

pub returns : goal.returns
returns c = shown_as c.read-shown.ensures c.write.ensures c.call-d.ensures
