-- `order` meets its contract: desk A's records are filled in from the front, and desk B's in the part behind them. Assumes nothing.
use native.Mathlib.Omega.{arith}
use Rattle.halves.proofs.Laws.{order_fits, order-within, order-rest, ordered}
use Rattle.halves.proofs.order.Goals as goal

pub fill-a-requires : goal.fill-a-requires
fill-a-requires c = let p = c.requires in let m = p.many in (omega arith, order_fits p)

pub overflow_mul-k : goal.overflow_mul-k
overflow_mul-k c =
    let f = c.fill-a.ensures in
    let e = f.0 in
    let h = order_fits c.requires in
    omega arith

pub slice_bounds-fill-count : goal.slice_bounds-fill-count
slice_bounds-fill-count c = let f = c.fill-a.ensures in order-within c.requires f.1 f.0

pub fill-requires : goal.fill-requires
fill-requires c =
    let p = c.requires in
    let f = c.fill-a.ensures in
    let m = p.many in
    (omega arith, order-rest p f.1 f.0)

pub returns : goal.returns
returns c =
    let p = c.requires in
    let f = c.fill-a.ensures in
    ordered p f.1 f.0 c.fill.ensures.1
