-- `put` meets its contract: one byte is written. Assumes nothing.
use Prim.Native.Nat.{ℕ}
use mathlib.Core.Path.{ap, ◌∙◌}
use mathlib.Core.List.{[], ◌∷◌}
use Rattle.memory.specs.Splice.{splice}
use Rattle.memory.proofs.Splice.{set-splice}
use Rattle.shifting.proofs.put.Goals as goal

pub returns : goal.returns
returns c =
    let a = c.args in
    set-splice a.display.now a.j c.shift-n.result c.requires ∙ ap (λ (v : ℕ). splice a.display.now a.j (v ∷ [])) c.shift-n.ensures
