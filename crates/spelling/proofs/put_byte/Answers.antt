-- `put_byte` meets its contract: two stores, one behind the other, are one run of bytes. Assumes nothing.
use Prim.Native.Nat.{◌%◌}
use mathlib.Core.List.{[], ◌∷◌}
use native.Mathlib.Omega.{arith}
use lib.ListN.{length-set}
use Rattle.memory.proofs.Splice.{stores-splice}
use Rattle.machine.specs.Log.{hex_digit}
use Rattle.spelling.proofs.put_byte.Goals as goal

pub bounds-out-at-2 : goal.bounds-out-at-2
bounds-out-at-2 c = simp length-set (omega arith)

pub returns : goal.returns
returns c =
    let a = c.args in
    rw (c.digit.ensures, c.digit-2.ensures) (stores-splice a.out.now a.at _ (hex_digit (a.b % 16) ∷ []) (omega arith))
