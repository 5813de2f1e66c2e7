-- `put_requests` meets its contract: the three lists stand one behind the other. Assumes nothing.
use native.Mathlib.Omega.{arith}
use Rattle.frame_lines.proofs.FrameLines.{put_then}
use Rattle.frame_lines.proofs.FramesIn.{listed-waiting, listed-locks, listed-waiters, requests_length}
use Rattle.saved_requests.proofs.put_requests.Goals as goal

pub put_queue-p-requires : goal.put_queue-p-requires
put_queue-p-requires c =
    let s = c.args.s in
    let tb = c.args.table.now in
    let n = requests_length s tb in
    let r = c.requires.1 in
    (listed-waiting c.requires.0, omega arith)

pub put_queue-p-requires-2 : goal.put_queue-p-requires-2
put_queue-p-requires-2 c =
    let s = c.args.s in
    let tb = c.args.table.now in
    let n = requests_length s tb in
    let r = c.requires.1 in
    let n1 = c.put_queue-p.ensures.next in
    (listed-locks c.requires.0, omega arith)

pub put_queue-requires : goal.put_queue-requires
put_queue-requires c =
    let s = c.args.s in
    let tb = c.args.table.now in
    let n = requests_length s tb in
    let r = c.requires.1 in
    let n1 = c.put_queue-p.ensures.next in
    let n2 = c.put_queue-p-2.ensures.next in
    (listed-waiters c.requires.0, omega arith)

pub returns : goal.returns
returns c =
    let s = c.args.s in
    let tb = c.args.table.now in
    let n = requests_length s tb in
    let r = c.requires.1 in
    let n1 = c.put_queue-p.ensures.next in
    let n2 = c.put_queue-p-2.ensures.next in
    put_then c.put_queue-p.ensures (put_then c.put_queue-p-2.ensures c.put_queue.ensures (omega arith)) (omega arith)
