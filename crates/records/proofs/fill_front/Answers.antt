-- `fill_front` meets its contract: free channels behind the board's own change no look. Assumes nothing.
use Rattle.waiting.proofs.Finding.{readable}
use Rattle.board.proofs.Laws.{held_wide}
use Rattle.records.proofs.Records.{lists_of}
use Rattle.records.proofs.fill_front.Goals as goal

pub put_all-requires : goal.put_all-requires
put_all-requires c = let p = c.requires in (readable (held_wide p.0).0, p.1)

pub returns : goal.returns
returns c =
    let p = c.requires in
    lists_of p.0 (c.put_all.ensures _ (c.of-t.ensures _))
