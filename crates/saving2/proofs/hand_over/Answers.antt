-- `hand_over` meets its contract: the length is compared with that of the room, and then the bytes are copied. Assumes nothing.
use mathlib.Core.Path.{sym}
use native.Mathlib.Omega.{arith}
use lib.Seq.{length-take-le}
use Rattle.saving2.proofs.Laws2.{does_not_fit, fits}
use Rattle.saving2.proofs.hand_over.Goals as goal

pub returns-then-n-text : goal.returns-then-n-text
returns-then-n-text c =
    let k = length-take-le c.args.n c.args.page.now c.requires in
    does_not_fit (omega arith)

pub slice_bounds-copy-end : goal.slice_bounds-copy-end
slice_bounds-copy-end c = sym (length-take-le c.args.n c.args.page.now c.requires)

pub copy-requires : goal.copy-requires
copy-requires c =
    let k = length-take-le c.args.n c.args.page.now c.requires in
    omega arith

pub returns : goal.returns
returns c =
    let k = length-take-le c.args.n c.args.page.now c.requires in
    fits (omega arith) (record { bytes = c.copy.ensures; next = omega arith })
