-- `fill` meets its contract: what is written in front are the combinations, and every other byte is as before. Assumes nothing.
use native.Mathlib.Omega.{arith}
use Rattle.frames.proofs.Laws.{combos_written}
use Rattle.frames.proofs.fill.Goals as goal

pub returns : goal.returns
returns c =
    let l = c.loop-k in
    let a = c.args in
    combos_written a.line.now a.combos.now l.combo-items a.n l.k c.requires.1 c.requires.2 (omega arith) (omega arith) l.invariant
