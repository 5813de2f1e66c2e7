-- `waiting` meets its contract: after as many stores as there are records, the records stand in front. Assumes nothing.
use Prim.Native.Nat.{◌≤◌}
use mathlib.Core.Path.{◌≡◌, refl, sym, subst, ap₂, ◌∙◌}
use mathlib.Core.List.{List}
use native.Mathlib.Omega.{arith}
use lib.ListN.{set, length}
use Rattle.std.proofs.Common.{add-one}
use Rattle.record_structs.specs.declared.Waiter.{Waiter}
use Rattle.record_structs.specs.RecordStructs.{written, Tells}
use Rattle.record_structs.proofs.Stores.{stored-written}
use Rattle.record_structs.proofs.waiting.Goals as goal

pub loop-i-init : goal.loop-i-init
loop-i-init c = refl

pub loop-i-preserved : goal.loop-i-preserved
loop-i-preserved c = rw add-one (ap₂ (λ (l : List Waiter) (w : Waiter). set l c.loop-i.i w) c.loop-i.invariant c.at.ensures)

pub returns : goal.returns
returns c =
    let t = c.byte_records in
    let l = c.args.list.now in
    let n = t.result.0.count in
    let i : c.loop-i.i ≡ n = omega arith in
    let w : n ≤ length l = t.ensures.within in
    let e : c.loop-i.list ≡ written t.result.1 n l =
    rw i at c.loop-i.invariant ∙ stored-written t.result.1 l n w in
    subst (λ ws. Tells c.args.state.now c.args.table.now l t.result.0.error n ws) (sym e) (t.ensures.tells l refl)
