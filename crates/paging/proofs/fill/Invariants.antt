-- `fill` meets its contract: each turn takes one line at most, and what is left of the lump, taken by the rule, gives the whole.
-- Assumes nothing.
use Prim.Native.Nat.{◌-◌}
use mathlib.Core.Path.{◌≡◌}
use lib.ListN.{length}
use Rattle.image.specs.Image.{state_of, Whole}
use Rattle.one_line.specs.taking.Desk.{desk_of}
use Rattle.paging.proofs.Laws.{Filling}
use Rattle.paging.proofs.fill.Given as goal

abbrev pub invariant-loop-from : goal.invariant-loop-from
invariant-loop-from l = Whole l.state × Filling l.show (desk_of (state_of l.initial.state) l.initial.table l.initial.display l.initial.line l.initial.n l.initial.page l.initial.at) l.input
    (state_of l.state) l.table l.display l.line l.n l.page l.at l.from
    × (length l.state ≡ length l.initial.state) × (length l.table ≡ length l.initial.table) × (length l.page ≡ length l.initial.page)

abbrev pub decreases-loop-from : goal.decreases-loop-from
decreases-loop-from l = length l.input - l.from
