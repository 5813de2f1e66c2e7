-- `put_number` meets its contract: the line is made of the first byte, the channel, and its two bytes of the display. Assumes nothing.
use Rattle.number_lines.specs.NumberLines.{number_line}
use Rattle.number_lines.proofs.put_number.Goals as goal

pub returns : goal.returns
unfolding number_line
returns c = c.put_line.ensures
