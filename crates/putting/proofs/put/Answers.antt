-- `put` meets its contract: the output is copied behind what stands, and what is shown behind the output. Assumes nothing.
use Prim.Native.Nat.{◌≤◌}
use mathlib.Core.Path.{sym}
use native.Mathlib.Omega.{arith}
use lib.ListN.{length}
use lib.Seq.{length-take-le}
use Rattle.image.proofs.board.Laws.{held_eight}
use Rattle.image.specs.Image.{state_of}
use Rattle.putting.proofs.Laws.{channels_few, put_none, put_some}
use Rattle.putting.proofs.put.Goals as goal

pub returns-then-n-eq0 : goal.returns-then-n-eq0
returns-then-n-eq0 c = put_none c.if-n-eq0.true

pub slice_bounds-copy-end : goal.slice_bounds-copy-end
slice_bounds-copy-end c =
    let p = c.requires in let a = p.1 in
    let b = p.2 in sym (length-take-le _ _ (omega arith))

pub copy-requires : goal.copy-requires
copy-requires c =
    let p = c.requires in
    let a = p.1 in
    let b = p.2 in
    let d = p.4 in
    let k : c.args.t.at ≤ length c.args.out.now = omega arith in
    rw (length-take-le _ _ k) (omega arith)

pub put_channels-k-requires : goal.put_channels-k-requires
put_channels-k-requires c =
    let a = c.requires.1 in
    let d = c.requires.4 in
    let k = c.copy.auto.list in
    (c.requires.0, held_eight c.requires.3, omega arith)

pub put_display-e-requires : goal.put_display-e-requires
put_display-e-requires c =
    let a = c.requires.1 in
    let d = c.requires.4 in
    let k = c.copy.auto.list in
    let m = c.put_channels-k.auto.page in
    let few = channels_few c.args.show.channels (state_of c.args.state.now) (held_eight c.requires.3) in
    let n = c.put_channels-k.ensures.count in
    (c.requires.0, c.requires.3, omega arith)

pub returns : goal.returns
returns c =
    let p = c.requires in
    let a = p.1 in
    let b = p.2 in
    put_some c.if-n-eq0.false (omega arith) p.3 p.4 a c.copy.ensures c.put_channels-k.ensures
    c.put_display-e.ensures
