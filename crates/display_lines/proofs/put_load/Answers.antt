-- `put_load` meets its contract: E0, the numbers and the looks stand one behind the other, and LF ends them. Assumes nothing.
use Prim.Native.Nat.{◌-◌, ◌*◌}
use mathlib.Core.Path.{◌≡◌, sym}
use native.Mathlib.Omega.{arith}
use lib.ListN.{length, take, drop, length-set, length-drop}
use lib.Seq.{length-take-le, take_all}
use Rattle.display_lines.proofs.DisplayLines.{load_put}
use Rattle.display_lines.proofs.put_load.Goals as goal

pub slice_bounds-put_bytes-end : goal.slice_bounds-put_bytes-end
slice_bounds-put_bytes-end c =
    let a = c.requires.0 in
    let b = c.requires.1 in
    sym (length-take-le _ _ (omega arith))

pub put_bytes-requires : goal.put_bytes-requires
put_bytes-requires c =
    let a = c.requires.0 in
    let b = c.requires.1 in
    let k = length-take-le (2 * c.args.w) c.args.display.now (omega arith) in
    omega arith

pub shape_of-out : goal.shape_of-out
shape_of-out c = simp length-set (omega arith)

pub returns : goal.returns
returns c =
    let a = c.args in
    let n = c.requires.1 in
    let k = length-drop 16 a.display.now in
    let e : take (length a.display.now - 16) (drop 16 a.display.now) ≡ drop 16 a.display.now = take_all (length a.display.now - 16) (drop 16 a.display.now) (omega arith) in
    rw (c.put_bytes-2.ensures, c.put_bytes.ensures, c.put_byte.ensures)
    (load_put a.out.now a.w a.display.now _ c.requires.0 n c.requires.2 e)
