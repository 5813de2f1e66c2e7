-- `put` meets its contract: the six bytes are written at their place. Assumes nothing.
use Prim.Native.Nat.{ℕ, ◌*◌}
use mathlib.Core.Path.{refl, ap, ◌∙◌}
use mathlib.Core.List.{List, [], ◌∷◌}
use native.Mathlib.Omega.{arith}
use lib.ListN.{get_or}
use Rattle.memory.proofs.Splice.{put_mid-splice, key-bytes}
use Rattle.reply.proofs.put.Goals as goal

pub returns : goal.returns
returns c =
    let a = c.args in
    let r = a.r in (
      refl,
      put_mid-splice a.list.now (a.n * 6) _ _ _
          (c.copy_from_slice.ensures.after
          ∙ ap (λ (b : List ℕ). r.id ∷ r.command ∷ r.error ∷ r.map ∷ get_or b 0 0 ∷ get_or b 1 0 ∷ []) (c.to_be_bytes.ensures ∙ key-bytes r.key (omega arith)))
          (omega arith),
    )
