-- `plays` meets its contract, case by case of its tests. Assumes nothing.
use mathlib.Core.Path.{refl}
use Rattle.fronts.specs.Fronts.{on_air}
use Rattle.fronts.proofs.plays.Goals as goal

pub returns-then-c : goal.returns-then-c
unfolding on_air
returns-then-c c = rw c.if-c.true refl

pub returns : goal.returns
unfolding on_air
returns c = rw c.if-c.false refl
