-- `put_queue` meets its contract: a store, and the ids behind it. Assumes nothing.
use native.Mathlib.Omega.{arith}
use mathlib.Core.Path.{◌≡◌}
use lib.ListN.{length, length-set}
use Rattle.image.proofs.Laws.{wrote-length, queue-wrote}
use borrow.Author.Rules.{rules}
use Rattle.encoding.proofs.put_queue.Goals as goal

pub copy-requires : goal.copy-requires
copy-requires c = let h : length c.args.q.ids ≡ 64 = search rules in simp length-set (omega arith)

pub returns : goal.returns
returns c =
    let a = c.args in
    let h : length a.q.ids ≡ 64 = search rules in
    rw c.copy.ensures (queue-wrote a.bytes.now a.at a.q.n a.q.ids h (omega arith))

pub shape_of-bytes : goal.shape_of-bytes
shape_of-bytes c = let a = c.args in wrote-length (returns c) (omega arith)
