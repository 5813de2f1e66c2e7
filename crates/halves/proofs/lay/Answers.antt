-- `lay` meets its contract: desk A's records are filled in from the front, then desk B's in the part from the middle on. Assumes nothing.
use Prim.Native.Nat.{◌<◌}
use native.Mathlib.Omega.{arith}
use Rattle.halves.proofs.Laws.{nothing-laid, first_fits, still_long, second_fits, both_laid}
use Rattle.halves.proofs.lay.Goals as goal

pub returns-then-n-eq0 : goal.returns-then-n-eq0
returns-then-n-eq0 c = nothing-laid c.requires c.if-n-eq0.true

pub fill-a-requires : goal.fill-a-requires
fill-a-requires c =
    let h : 0 < c.args.n = omega arith in
    let m = c.requires.many in
    (omega arith, first_fits c.requires h)

pub slice_bounds-fill-count : goal.slice_bounds-fill-count
slice_bounds-fill-count c =
    let h : 0 < c.args.n = omega arith in
    let g = still_long c.requires h c.fill-a.ensures.1 in
    omega arith

pub fill-b-requires : goal.fill-b-requires
fill-b-requires c =
    let h : 0 < c.args.n = omega arith in
    let m = c.requires.many in
    (omega arith, second_fits c.requires h c.fill-a.ensures.1)

pub returns : goal.returns
returns c =
    let h : 0 < c.args.n = omega arith in
    let f = c.fill-a.ensures in
    let g = c.fill-b.ensures in
    both_laid c.requires h f.1 f.0 g.0 g.1
