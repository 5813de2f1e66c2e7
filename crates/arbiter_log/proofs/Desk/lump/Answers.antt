-- `lump` meets its contract: each call uses some of the lump, and leaves the desk ready. Assumes nothing.
use Prim.Native.Nat.{◌-◌, ◌<◌}
use mathlib.Core.Path.{refl}
use native.Mathlib.Omega.{arith}
use lib.ListN.{length, take, drop, length-drop}
use lib.Seq.{length-take-le}
use borrow.Author.Rules.{rules}
use Rattle.arbiter_log.proofs.Laws.{fill_ready, fill_inside, fill_most, fill_some}
use Rattle.arbiter_log.proofs.Desk.lump.Goals as goal

pub invariant_of-self : goal.invariant_of-self
invariant_of-self c = record { ready = fill_ready c.loop-rest.self.ready c.fill-left.ensures.1 _ c.fill-left.ensures.0 refl }

pub shared_ref_as_front-write : goal.shared_ref_as_front-write
shared_ref_as_front-write c =
    let a = fill_inside c.loop-rest.self.ready c.fill-left.ensures.1 in
    let b = c.fill-left.auto.page in
    omega arith

pub slice_bounds-rest-count : goal.slice_bounds-rest-count
slice_bounds-rest-count c = fill_most c.loop-rest.self.ready c.fill-left.ensures.1

pub slice_bounds-rest-start : goal.slice_bounds-rest-start
slice_bounds-rest-start c = fill_most c.loop-rest.self.ready c.fill-left.ensures.1

pub loop-rest-smaller : goal.loop-rest-smaller
loop-rest-smaller c =
    let bs = c.loop-rest.rest.now in
    let k = c.fill-left.result.used in
    let some : 0 < length bs = search rules in
    let a = fill_most c.loop-rest.self.ready c.fill-left.ensures.1 in
    let b = fill_some c.loop-rest.self.ready c.fill-left.ensures.1 some in
    let d = length-drop k bs in
    let t = length-take-le (length bs - k) (drop k bs) (omega arith) in
    let z : length (take (length bs - k) (drop k bs)) < length bs = omega arith in
    z
