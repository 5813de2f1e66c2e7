-- `clear` meets its contract: the part at its place is filled with zeros. Assumes nothing.
use Prim.Native.Nat.{ℕ, ◌-◌, ◌+◌}
use mathlib.Core.Path.{◌≡◌, ap, sym, ◌∙◌}
use native.Mathlib.Omega.{arith}
use lib.ListN.{length, replicate, length-replicate}
use borrow.Rule.Slice.PartMut.{mid_len}
use Rattle.memory.proofs.Splice.{put_mid-splice}
use Rattle.memory.proofs.clear.Goals as goal

pub returns : goal.returns
returns c =
    let a = c.args in
    let n : a.at + a.n - a.at ≡ a.n = omega arith in
    let part = mid_len a.at (a.at + a.n) a.list.now c.requires in
    put_mid-splice a.list.now a.at _ _ _
    (c.fill.ensures.after (λ y e. e) ∙ ap (λ (k : ℕ). replicate {A = ℕ} k 0) (part ∙ n))
    (n ∙ sym (length-replicate {A = ℕ} a.n 0))
