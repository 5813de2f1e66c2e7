-- `set_last` meets its contract: two bytes. Assumes nothing.
use native.Mathlib.Omega.{arith}
use Prim.Native.Nat.{◌/◌, ◌%◌}
use mathlib.Core.List.{[], ◌∷◌}
use Rattle.lent.proofs.Puts.{put_last}
use Rattle.lent.proofs.Bytes.{bytes_none, bytes_more}
use Rattle.lent.proofs.set_last.Goals as goal

pub returns : goal.returns
returns c =
    let k = c.args.key in
    let f = c.ranges.key.fits in
    put_last c.args.state.now k c.requires c.put_key.ensures
    (bytes_more (k / 256) (k % 256 ∷ []) (omega (arith, f)) (bytes_more (k % 256) [] (omega arith) bytes_none))
