-- `put_span` meets its contract: the bytes behind its head are those of its entry. Assumes nothing.
use Prim.Native.Nat.{◌+◌, ◌-◌, ◌*◌}
use mathlib.Core.Path.{ap}
use mathlib.Core.List.{◌∷◌}
use native.Mathlib.Omega.{arith}
use Rattle.machine_laws.specs.machine.Log.{line}
use Rattle.frame_lines.proofs.FrameLines.{put_as, entry_part}
use Rattle.frame_lines.proofs.put_span.Goals as goal

pub returns : goal.returns
returns c =
    let a = c.args in
    put_as c.put_line.ensures
    (ap (λ x. line (a.first ∷ a.id ∷ x)) (entry_part a.table.now a.id 1 3 (a.id * 23 + 1 + 3 - (a.id * 23 + 1)) c.requires.0 c.requires.1 (omega arith) (omega arith)))
