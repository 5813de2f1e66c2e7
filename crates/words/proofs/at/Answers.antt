use Prim.Native.Nat.{ℕ, ◌-◌}
use mathlib.Core.Path.{ap, ◌∙◌}
use mathlib.Core.List.{List}
use native.Mathlib.Omega.{arith}
use lib.ListN.{length, take, drop, length-drop}
use lib.Seq.{take_all}
use Rattle.words.specs.Words.{number}
use Rattle.words.proofs.at.Goals as goal

pub returns : goal.returns
returns c =
    let a = c.args in
    let l = a.list.now in
    c.first.ensures ∙ ap (λ (x : List ℕ). number (take 8 x))
    (take_all (length l - a.k) (drop a.k l) (simp length-drop (omega arith)))
