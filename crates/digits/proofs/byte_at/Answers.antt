-- `byte_at` meets its contract: two digits make a byte. Assumes nothing.
use native.Mathlib.Omega.{arith}
use Rattle.digits.proofs.Laws.{get_d_pairs}
use Rattle.digits.proofs.byte_at.Goals as goal

pub returns : goal.returns
returns c = let e = get_d_pairs c.args.line.now c.args.i c.requires.1 in omega arith
