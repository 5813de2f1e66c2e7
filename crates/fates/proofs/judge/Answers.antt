-- `judge` meets its contract: each case is what its function says. Assumes nothing.
use Prim.Native.Nat.{ℕ}
use mathlib.Core.Path.{◌≡◌, refl, ◌∙◌}
use mathlib.Core.Bool.{Bool, true, false}
use Rattle.std.specs.Prelude.{if◌then◌else◌}
use Rattle.store.specs.machine.Maps.{meets}
use Rattle.fates.specs.declared.Fate.TheVariants.{Ends, Stays}
use Rattle.fates.specs.Fates.{ends_at, map_at, error_of}
use Rattle.fates.proofs.judge.Goals as goal

pub returns-in-Stolen : goal.returns-in-Stolen
unfolding ends_at map_at error_of
returns-in-Stolen c = rw c.in-Stolen.is c.told.ensures

-- where it stays, none of its map is taken
kept : (b : Bool) (e x : ℕ) → (if b then Ends e 0 else Stays x) ≡ (if b then Ends e (if b then 0 else x) else Stays (if b then 0 else x))
kept true e x = refl
kept false e x = refl

pub returns-in-Cut : goal.returns-in-Cut
unfolding ends_at map_at error_of
returns-in-Cut c = rw c.in-Cut.is (c.told-in-Cut.ensures ∙ kept (meets 8 c.args.m c.args.own) 254 c.args.own)

pub returns-in-Met : goal.returns-in-Met
unfolding ends_at map_at error_of
returns-in-Met c = rw c.in-Met.is c.told-in-Met.ensures
