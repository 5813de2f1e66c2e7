-- `is_sound_wait` meets its contract: each return is a case of the definition. Assumes nothing.
use Prim.Native.Nat.{◌+◌, ◌≤◌}
use mathlib.Core.Path.{◌≡◌, sym, ◌∙◌}
use lib.ListN.{length, get_or}
use Rattle.table.specs.memory.Splice.{block}
use Rattle.store.specs.Store.{request_in}
use Rattle.entries.proofs.Cases.{counted, too_many}
use native.Mathlib.Omega.{arith}
use borrow.Author.Tests.{le-leb}
use Rattle.entries.specs.Entries.{wait_test, request_test}
use Rattle.wait_entries.proofs.is_sound_wait.Goals as goal

pub returns-then-n-eq0 : goal.returns-then-n-eq0
unfolding wait_test request_test
returns-then-n-eq0 c =
    let a = c.args in
    let z : get_or (block 23 a.table.now a.id) 6 0 ≡ 0 = sym c.count-n.ensures ∙ c.if-n-eq0.true in
    rw z

pub returns-then-n-gt-COMBOS : goal.returns-then-n-gt-COMBOS
returns-then-n-gt-COMBOS c =
    let a = c.args in
    let p = c.requires in
    too_many (a.top + 1) a.table.now a.id p.0 p.1 (rw (← c.count-n.ensures) c.if-n-gt-COMBOS.true)

pub returns-then-low : goal.returns-then-low
unfolding wait_test request_test
returns-then-low c =
    let a = c.args in
    let p = c.requires in
    let many = c.count-n in
    let n : get_or (block 23 a.table.now a.id) 6 0 ≡ many.result = sym many.ensures in
    let l = counted a.table.now a.id p.0 p.1 (omega arith) in
    let g : 1 ≤ length (request_in a.table.now a.id).combos = omega (arith, c.if-n-eq0.false) in
    let h : length (request_in a.table.now a.id).combos ≤ 16 = omega arith in
    let b = rw c.combos.ensures at (sym c.low.ensures ∙ c.if-low.true) in
    rw (le-leb _ _ g, le-leb _ _ h, b, le-leb _ _ c.is_wait.ensures.range.0, le-leb _ _ c.is_wait.ensures.range.1) c.is_wait.ensures.value

pub returns-else-low : goal.returns-else-low
unfolding wait_test request_test
returns-else-low c =
    let a = c.args in
    let p = c.requires in
    let many = c.count-n in
    let n : get_or (block 23 a.table.now a.id) 6 0 ≡ many.result = sym many.ensures in
    let l = counted a.table.now a.id p.0 p.1 (omega arith) in
    let g : 1 ≤ length (request_in a.table.now a.id).combos = omega (arith, c.if-n-eq0.false) in
    let h : length (request_in a.table.now a.id).combos ≤ 16 = omega arith in
    let b = rw c.combos.ensures at (sym c.low.ensures ∙ c.if-low.false) in
    rw (le-leb _ _ g, le-leb _ _ h, b) c.if-low.false
