-- `feed_sound` meets its contract: a line is malformed, or a call is served and told. Assumes nothing.
use mathlib.Core.Path.{refl}
use native.Mathlib.Omega.{arith}
use Rattle.image.specs.Image.{state_of}
use Rattle.unheard.proofs.frames.Laws.{asked-frame, malformed_none}
use Rattle.serving.proofs.Laws.{dull-feeds, dull-display, reads-length, served_few, served-order, served-feeds, served-display}
use Rattle.serving.proofs.feed_sound.Goals as goal

pub returns-in_default : goal.returns-in_default
returns-in_default c =
    let e = (malformed_none c.read.ensures c.in_default.is).0 in
    let w = dull-feeds c.requires.1 e (c.malformed.ensures (state_of c.args.state.now)) in
    (c.requires.0, w, dull-display _ w e)

pub slice_bounds-serve-end : goal.slice_bounds-serve-end
slice_bounds-serve-end c =
    reads-length c.read.ensures
    c.in-Some.is refl

pub serve-d-requires : goal.serve-d-requires
serve-d-requires c =
    let r = c.read.ensures in
    let e = c.in-Some.is in
    let k = reads-length r e refl in
    let b = (asked-frame r e).few in
    let p = c.requires in
    (p.0, p.1, omega arith)

pub order-requires : goal.order-requires
order-requires c =
    served-order
    c.requires.1 refl
    c.serve-d.ensures.1

pub tell-requires : goal.tell-requires
tell-requires c =
    let k = served_few c.requires.1 c.serve-d.ensures.1 in
    omega arith

pub returns : goal.returns
returns c =
    let a = asked-frame c.read.ensures
    c.in-Some.is in
    let e = c.serve-d.ensures in (
      e.0,
      served-feeds _ refl a e.1 c.order.ensures
          c.tell.ensures,
      served-display _ refl a e.1 e.2,
    )
