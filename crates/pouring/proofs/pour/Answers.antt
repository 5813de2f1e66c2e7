-- `pour` meets its contract: a copy. Assumes nothing.
use mathlib.Core.Path.{sym}
use native.Mathlib.Omega.{arith}
use lib.ListN.{length-take}
use lib.Seq.{length-take-le}
use Rattle.pouring.proofs.pour.Goals as goal

pub slice_bounds-copy-end : goal.slice_bounds-copy-end
slice_bounds-copy-end c = sym (length-take-le _ _ (omega arith))

pub copy-requires : goal.copy-requires
copy-requires c =
    let l = length-take c.args.k c.args.text.now in
    let r = c.requires.1 in
    omega arith
