-- `show` meets its contract: the numbers in front, then the looks. Assumes nothing.
use Prim.Native.Nat.{◌/◌, ◌%◌}
use mathlib.Core.Path.{ap, ◌∙◌}
use mathlib.Core.List.{List, [], ◌∷◌}
use Prim.Native.Nat.{ℕ}
use native.Mathlib.Omega.{arith}
use lib.ListN.{take}
use lib.Seq.{length-take-le}
use Rattle.memory.specs.Splice.{splice}
use Rattle.channel_numbers.proofs.Laws.{length_moved}
use Rattle.correcting.proofs.Laws.{whole_display}
use Rattle.correcting.proofs.show.Goals as goal

pub returns : goal.returns
returns c =
    let d = c.args.display.now in
    let k = c.args.looks in
    let e = c.correct.ensures in
    c.put_key.ensures
    ∙ (ap (λ (x : List ℕ). splice x 16 ((k / 256) ∷ (k % 256) ∷ [])) e
    ∙ whole_display d _ (k / 256) (k % 256) c.requires.0
    (length_moved _ _ 0 (take 16 d) ∙ length-take-le 16 d (omega (arith, c.requires.0))))
