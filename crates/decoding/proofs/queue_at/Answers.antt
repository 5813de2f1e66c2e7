-- `queue_at` meets its contract: the ids are the 64 bytes behind the count. Assumes nothing.
use Prim.Native.Nat.{◌+◌, ◌-◌}
use mathlib.Core.Path.{◌≡◌, ap, ◌∙◌}
use native.Mathlib.Omega.{arith}
use lib.ListN.{take, drop, get_or}
use Rattle.image.specs.Image.{queue_at}
use Rattle.decoding.proofs.queue_at.Goals as goal

pub returns : goal.returns
unfolding queue_at
returns c =
    let a = c.args in
    let e : a.at + 65 - (a.at + 1) ≡ 64 = omega arith in
    ap (λ ids. record { n = get_or a.bytes.now a.at 0; ids = ids }) (c.copy_from_slice.ensures.after ∙ ap (λ k. take k (drop (a.at + 1) a.bytes.now)) e)
