-- `put_head` meets its contract: the seven bytes are written at their place. Assumes nothing.
use Prim.Native.Nat.{ℕ}
use mathlib.Core.Path.{ap, ◌∙◌}
use mathlib.Core.List.{List, ◌∷◌, []}
use native.Mathlib.Omega.{arith}
use lib.ListN.{get_or}
use Rattle.memory.proofs.Splice.{put_mid-splice, key-bytes}
use Rattle.table.proofs.put_head.Goals as goal

pub returns : goal.returns
returns c =
    let a = c.args in
    let h = a.h in
    put_mid-splice a.table.now a.at _ _ _
    (c.copy_from_slice.ensures.after
    ∙ ap (λ (b : List ℕ). h.command ∷ get_or b 0 0 ∷ get_or b 1 0 ∷ h.map ∷ h.prec ∷ h.impatient ∷ h.n ∷ []) (c.to_be_bytes.ensures ∙ key-bytes h.key (omega arith)))
    (omega arith)
