-- `marked` meets its contract: the two tests are those of the definition. Assumes nothing.
use Prim.Native.Nat.{◌+◌, ◌≤◌, ◌<◌}
use lib.ListN.{get_or}
use borrow.Author.Tests.{lt-ltb, le-ltb}
use Rattle.image.specs.Image.{marks_at}
use Rattle.image.proofs.marked.Goals as goal

pub returns-then-bytes-at-lt2 : goal.returns-then-bytes-at-lt2
unfolding marks_at
returns-then-bytes-at-lt2 c =
    let a = c.args in
    let h : get_or a.bytes.now (a.at + 3) 0 < 2 = c.if-bytes-at-lt2.true in
    rw (lt-ltb _ _ h)

pub returns-else-bytes-at-lt2 : goal.returns-else-bytes-at-lt2
unfolding marks_at
returns-else-bytes-at-lt2 c =
    let a = c.args in
    let h : 2 ≤ get_or a.bytes.now (a.at + 3) 0 = c.if-bytes-at-lt2.false in
    rw (le-ltb _ _ h)
