-- `put_keys` meets its contract: after i turns the bytes of i keys stand from the place on. Assumes nothing.
use mathlib.Core.Path.{◌≡◌, refl, ap, ◌∙◌}
use native.Mathlib.Omega.{arith}
use borrow.Author.Rules.{rules}
use lib.ListN.{length}
use Rattle.memory.proofs.Splice.{length-splice}
use Rattle.image.proofs.Laws.{keys_start, keys_turn, keys_all}
use Rattle.encoding.proofs.put_keys.Goals as goal

pub loop-i-init : goal.loop-i-init
loop-i-init c = (search rules, refl, keys_start c.args.bytes.now c.args.at c.args.keys)

pub put_key-requires : goal.put_key-requires
put_key-requires c = let l = c.loop-i in let h = l.invariant.0 in let e = l.invariant.1 in omega arith

pub loop-i-preserved : goal.loop-i-preserved
loop-i-preserved c =
    let l = c.loop-i in
    let a = c.args in
    let room : length a.keys ≡ 32 = search rules in
    let h = l.invariant.0 in
    let e = l.invariant.1 in
    let z = ap length c.put_key.ensures ∙ length-splice _ _ _ (omega arith) in (
      h,
      z ∙ e,
      keys_turn a.bytes.now a.at a.keys l.i (omega arith) (omega arith) l.invariant.2 c.put_key.ensures,
    )

pub shape_of-bytes : goal.shape_of-bytes
shape_of-bytes c = c.loop-i.invariant.1

pub returns : goal.returns
returns c =
    let l = c.loop-i in
    let a = c.args in
    let room : length a.keys ≡ 32 = search rules in
    let e : l.i ≡ 32 = omega arith in
    keys_all a.bytes.now a.at a.keys room (rw e at l.invariant.2)
