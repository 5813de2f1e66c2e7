-- `serve` meets its contract. Assumes nothing.
use mathlib.Core.Path.{sym}
use lib.Seq.{length-take-le}
use Rattle.serving.proofs.serve.Goals as goal

pub slice_bounds-handle-end : goal.slice_bounds-handle-end
slice_bounds-handle-end c = sym (length-take-le _ _ c.requires.2)

pub handle-requires : goal.handle-requires
handle-requires c = let p = c.requires in (p.0, p.1)

pub returns : goal.returns
returns c = c.handle.ensures
