-- `put_write` meets its contract: the bytes behind its head are those of its entry. Assumes nothing.
use Prim.Native.Nat.{◌+◌, ◌-◌, ◌*◌}
use mathlib.Core.Path.{ap}
use mathlib.Core.List.{◌∷◌}
use native.Mathlib.Omega.{arith}
use Rattle.machine_laws.specs.machine.Log.{line}
use Rattle.frame_lines.proofs.FrameLines.{put_as, entry_part}
use Rattle.frame_lines.proofs.put_write.Goals as goal

pub returns : goal.returns
returns c =
    let a = c.args in
    put_as c.put_line.ensures
    (ap (λ x. line (0xD5 ∷ a.channel ∷ a.id ∷ x)) (entry_part a.table.now a.id 7 6 (a.id * 23 + 7 + 6 - (a.id * 23 + 7)) c.requires.0 c.requires.1 (omega arith) (omega arith)))
