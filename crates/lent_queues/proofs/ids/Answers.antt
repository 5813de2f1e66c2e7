-- `ids` meets its contract: the ids stand behind their number. Assumes nothing.
use Prim.Native.Nat.{ℕ, ◌+◌, ◌-◌}
use mathlib.Core.Path.{◌≡◌, ap, sym, ◌∙◌}
use mathlib.Core.List.{List}
use native.Mathlib.Omega.{arith}
use lib.ListN.{get_or, take, drop}
use lib.Seq.{take-take}
use Rattle.image.specs.Image.{queue_at}
use Rattle.lent_queues.proofs.ids.Goals as goal

pub returns : goal.returns
unfolding queue_at
returns c =
    let a = c.args in
    let l = a.state.now in
    let behind = drop (a.at + 1) l in
    let many : a.at + 1 + c.from.result - (a.at + 1) ≡ get_or l a.at 0 = omega (arith, c.from.ensures) in
    ap (λ (k : ℕ). take k behind) many ∙ sym (take-take (get_or l a.at 0) 64 behind c.requires.1)
