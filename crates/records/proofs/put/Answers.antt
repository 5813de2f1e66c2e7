-- `put` meets its contract: four stores, one behind the other, are one run of bytes. Assumes nothing.
use Prim.Native.Nat.{ℕ, ◌*◌}
use mathlib.Core.Path.{ap₂, ◌∙◌}
use mathlib.Core.List.{[], ◌∷◌}
use native.Mathlib.Omega.{arith}
use lib.ListN.{length-set}
use Rattle.table.specs.memory.Splice.{splice}
use Rattle.table.proofs.memory.Splice.{stores-splice}
use Rattle.records.proofs.put.Goals as goal

pub bounds-out-at-2 : goal.bounds-out-at-2
bounds-out-at-2 c = simp length-set (omega arith)

pub bounds-out-at-3 : goal.bounds-out-at-3
bounds-out-at-3 c = simp length-set (omega arith)

pub bounds-out-at-4 : goal.bounds-out-at-4
bounds-out-at-4 c = simp length-set (omega arith)

pub returns : goal.returns
returns c =
    let a = c.args in
    stores-splice a.out.now (a.i * 4) a.id (_ ∷ a.held ∷ _ ∷ []) (omega arith)
    ∙ ap₂ (λ (p d : ℕ). splice a.out.now (a.i * 4) (a.id ∷ p ∷ a.held ∷ d ∷ [])) c.signed-p.ensures c.of-desk.ensures
