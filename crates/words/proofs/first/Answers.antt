-- `first` meets its contract: each byte has the weight of its place. Assumes nothing.
use mathlib.Core.Path.{◌≡◌, refl, ◌∙◌}
use native.Mathlib.Omega.{arith}
use Rattle.words.proofs.Laws.{number-eight}
use Rattle.words.proofs.first.Goals as goal

pub returns : goal.returns
returns c =
    let eight = number-eight c.args.b.now refl refl refl refl refl refl refl refl in
    omega (arith, c.from_le_bytes.ensures, eight)
