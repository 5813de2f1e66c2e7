-- `is_wait` meets its contract: the bytes that it compares with are those of the entry of the request that is read. Assumes nothing.
use Prim.Native.Nat.{ℕ}
use mathlib.Core.Bool.{Bool}
use mathlib.Core.List.{List}
use Rattle.table.specs.memory.Splice.{block}
use Rattle.std.specs.Prelude.{if◌then◌else◌}
use Rattle.entries.specs.Entries.{same}
use mathlib.Core.Path.{ap, sym, ◌∙◌}
use native.Mathlib.Omega.{arith}
use Rattle.entries.proofs.Cases.{counted, wait-bytes}
use borrow.Author.Rules.{rules}
use Rattle.wait_entries.proofs.is_wait.Goals as goal

pub copy-requires : goal.copy-requires
copy-requires c =
    let a = c.args in
    let p = c.requires in
    let e = counted a.table.now a.id p.0 p.1 p.2 in
    rw c.combos.ensures (omega (arith, p.2))

pub returns : goal.returns
returns c =
    let a = c.args in
    let g = c.requires in
    let e = counted a.table.now a.id g.0 g.1 g.2 in
    let b = wait-bytes a.table.now a.id _ _ _ _ _ c.key-key.ensures c.prec.ensures (c.flag.ensures ∙ ap (λ (x : Bool). if x then 1 else 0) c.impatient.ensures) (c.count.ensures ∙ sym e) c.combos.ensures (omega (arith, g.2)) in
    record {
      value = c.same.ensures ∙ ap (λ (x : List ℕ). same (block 23 a.table.now a.id) x) (c.copy.ensures ∙ b);
      range = (search rules, search rules);
    }
