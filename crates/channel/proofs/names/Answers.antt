-- `names` meets its contract: a shift by c is a division by 2 to the c, and a mask of one bit is the remainder by 2.
-- Assumes nothing.
use Prim.Native.Nat.{◌/◌, ◌^◌}
use lib.Bits.{and_mask}
use Rattle.machine_laws.specs.machine.Maps.{odd}
use Rattle.channel.proofs.names.Goals as goal

pub returns : goal.returns
unfolding odd
returns c = rw (and_mask (c.args.map / 2 ^ c.args.c) 1)
