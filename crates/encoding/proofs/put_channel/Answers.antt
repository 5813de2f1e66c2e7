-- `put_channel` meets its contract: five stores, and its queue behind them. Assumes nothing.
use mathlib.Core.Path.{◌∙◌}
use native.Mathlib.Omega.{arith}
use lib.ListN.{length-set}
use Rattle.image.proofs.Laws.{byte_mark, wrote-length, channel-wrote}
use Rattle.encoding.proofs.put_channel.Goals as goal

pub bounds-bytes-at-2 : goal.bounds-bytes-at-2
bounds-bytes-at-2 c = simp length-set (omega arith)

pub bounds-bytes-at-3 : goal.bounds-bytes-at-3
bounds-bytes-at-3 c = simp length-set (omega arith)

pub put_queue-requires : goal.put_queue-requires
put_queue-requires c = simp length-set (omega arith)

pub returns : goal.returns
returns c =
    let a = c.args in
    channel-wrote a.bytes.now a.at a.c (omega arith) c.put_key.ensures (c.from.ensures ∙ byte_mark _) (c.from-2.ensures ∙ byte_mark _) c.put_queue.ensures

pub shape_of-bytes : goal.shape_of-bytes
shape_of-bytes c = let a = c.args in wrote-length (returns c) (omega arith)
