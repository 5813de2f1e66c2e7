-- `put_key` meets its contract: the two bytes of the key are written at its place. Assumes nothing.
use mathlib.Core.Path.{◌∙◌}
use native.Mathlib.Omega.{arith}
use Rattle.memory.proofs.Splice.{put_mid-splice, key-bytes}
use Rattle.memory.proofs.put_key.Goals as goal

pub returns : goal.returns
returns c =
    let a = c.args in
    put_mid-splice a.list.now a.at _ _ _ (c.copy_from_slice.ensures.after ∙ (c.to_be_bytes.ensures ∙ key-bytes a.key (omega arith)))
    (omega arith)
