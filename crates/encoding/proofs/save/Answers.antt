-- `save` meets its contract: part after part is written, and nothing is left. Assumes nothing.
use mathlib.Core.Path.{◌∙◌}
use Rattle.image.proofs.Laws.{state-wrote, queue-filled, open_filled}
use Rattle.image.proofs.Round.{saved}
use Rattle.encoding.proofs.save.Goals as goal

pub returns : goal.returns
returns c =
    let a = c.args in
    let e =
    state-wrote a.bytes.now a.b c.requires c.put_channels.ensures.wrote c.put_queue.ensures c.put_queue-2.ensures c.put_queue-3.ensures
    c.put_open.ensures c.put_key.ensures in
    saved a.b
    record {
      eight = c.put_channels.ensures.eight;
      channels = c.put_channels.ensures.filled;
      locks = queue-filled c.put_queue.ensures;
      waiters = queue-filled c.put_queue-2.ensures;
      waiting = queue-filled c.put_queue-3.ensures;
      opens = open_filled a.b.state.opens c.put_open.ensures;
    }
    (c.put_width.ensures ∙ e) (λ i. (c.slice_known-8-1.given i).fits)
