-- `fits` meets its contract: its argument has two bytes. Assumes nothing.
use Prim.Native.Nat.{◌≤◌}
use mathlib.Core.Path.{sym}
use borrow.Author.Tests.{le-leb}
use borrow.Author.Rules.{rules}
use Rattle.shapes.proofs.fits.Goals as goal

pub returns : goal.returns
returns c = let h : c.args.key ≤ 65535 = search rules in sym (le-leb _ _ h)
