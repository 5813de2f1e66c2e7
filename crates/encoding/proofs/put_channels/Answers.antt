-- `put_channels` meets its contract: after i turns the bytes of i channels stand in front. Assumes nothing.
use mathlib.Core.Path.{◌≡◌, refl, ◌∙◌}
use native.Mathlib.Omega.{arith}
use borrow.Author.Rules.{rules}
use lib.ListN.{length}
use Rattle.image.proofs.Laws.{wrote-length, channels_start, channels_turn, filled_turn, channels-entered}
use Rattle.encoding.proofs.put_channels.Goals as goal

pub loop-i-init : goal.loop-i-init
loop-i-init c = (search rules, refl, channels_start c.args.bytes.now c.args.cs, tt)

pub put_channel-requires : goal.put_channel-requires
put_channel-requires c = let l = c.loop-i in let h = l.invariant.0 in let e = l.invariant.1 in omega arith

pub loop-i-preserved : goal.loop-i-preserved
loop-i-preserved c =
    let l = c.loop-i in
    let a = c.args in
    let eight : length a.cs ≡ 8 = search rules in
    let e = l.invariant.1 in
    let z = wrote-length c.put_channel.ensures (omega arith) in (
      l.invariant.0,
      z ∙ e,
      channels_turn a.bytes.now a.cs l.i _ (omega arith) (omega arith) l.invariant.2 c.put_channel.ensures,
      filled_turn a.cs l.i _ (omega arith) l.invariant.3 c.put_channel.ensures,
    )

pub shape_of-bytes : goal.shape_of-bytes
shape_of-bytes c = c.loop-i.invariant.1

pub returns : goal.returns
returns c =
    let l = c.loop-i in
    let a = c.args in
    let eight : length a.cs ≡ 8 = search rules in
    let e : l.i ≡ 8 = omega arith in
    channels-entered a.bytes.now a.cs eight (rw e at l.invariant.3) (rw e at l.invariant.2)
