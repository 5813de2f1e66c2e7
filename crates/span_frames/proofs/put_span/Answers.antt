-- `put_span` meets its contract: the entry that is put has the numbers of `span_of`. Assumes nothing.
use mathlib.Core.Path.{◌∙◌}
use Rattle.sheet.specs.Sheet.{span_of}
use Rattle.span_frames.proofs.put_span.Goals as goal

pub returns : goal.returns
unfolding span_of
returns c = c.put.ensures ∙ rw c.key_at.ensures
