-- `put_open` meets its contract: a store, and the keys behind it. Assumes nothing.
use native.Mathlib.Omega.{arith}
use lib.ListN.{length-set}
use Rattle.image.proofs.Laws.{wrote-length, open_wrote}
use Rattle.encoding.proofs.put_open.Goals as goal

pub put_keys-requires : goal.put_keys-requires
put_keys-requires c = simp length-set (omega arith)

pub returns : goal.returns
returns c =
    let a = c.args in
    open_wrote a.bytes.now a.at a.opens (omega arith) c.put_keys.ensures

pub shape_of-bytes : goal.shape_of-bytes
shape_of-bytes c = let a = c.args in wrote-length (returns c) (omega arith)
