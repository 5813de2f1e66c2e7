-- `kept` meets its contract: the bytes copied are those of the front write's entry, and without one they are zeros. Assumes nothing.
use Prim.Native.Nat.{◌+◌, ◌-◌, ◌*◌}
use mathlib.Core.Path.{refl, ◌∙◌}
use native.Mathlib.Omega.{arith}
use Rattle.frame_lines.proofs.FrameLines.{kept_none, kept_copied}
use Rattle.saved_channels.proofs.kept.Goals as goal

pub returns-then-q-eq0 : goal.returns-then-q-eq0
returns-then-q-eq0 c = kept_none c.args.table.now c.args.q (omega arith)

pub returns : goal.returns
returns c =
    let id = c.at-id in
    c.copy.ensures
    ∙ kept_copied c.args.table.now c.args.q id.result (id.result * 23 + 13 + 6 - (id.result * 23 + 13)) _ c.requires (λ z. omega arith) id.ensures (omega arith) refl
