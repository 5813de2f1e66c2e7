-- `named` meets its contract: a shift by c is a division by 2 to the c, and a mask of one bit is the remainder by 2.
-- Assumes nothing.
use Prim.Native.Nat.{◌/◌, ◌^◌}
use mathlib.Core.Path.{refl}
use native.Mathlib.Omega.{arith}
use lib.Bits.{and_mask}
use Rattle.wishes.specs.Wishes.{named}
use Rattle.wishes.proofs.named.Goals as goal

pub returns : goal.returns
unfolding named
returns c = rw (and_mask (c.args.map / 2 ^ c.args.c) 1) (refl, omega arith)
