-- `spell` meets its contract: the first line stands in front, and the others behind it. Assumes nothing.
use native.Mathlib.Omega.{arith}
use Rattle.image.specs.board.Board.{state_in}
use Rattle.saving.proofs.Laws.{frames_fit, text-put}
use Rattle.saving.proofs.spell.Goals as goal

pub put_frames-requires : goal.put_frames-requires
put_frames-requires c =
    let f = frames_fit c.requires.0 c.requires.1 in
    let l = c.requires.2 in
    (c.requires.0, omega arith)

pub returns : goal.returns
returns c =
    let l = c.requires.2 in
    text-put (state_in c.args.b c.args.table.now) (omega arith) c.copy.ensures c.put_frames.ensures
