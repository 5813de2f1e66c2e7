-- `add` meets its contract: the code does to the table of keys what `added_key` says. Assumes nothing.
use mathlib.Core.Path.{refl}
use Rattle.channel_frames.specs.sheet.Sheet.{added_key}
use Rattle.saved_frames.proofs.add.Goals as goal

pub returns : goal.returns
unfolding added_key
returns c = refl
