-- `is_write` meets its contract: an entry that is not a write's by its command, its count or its numbers is none, and of the others
-- the bytes compared tell. Assumes nothing.
use mathlib.Core.Path.{◌≡◌, refl, sym, ap, ◌∙◌}
use mathlib.Core.Bool.{true, false}
use native.Mathlib.Omega.{arith}
use Rattle.memory.specs.Splice.{block}
use Rattle.numbers.specs.table.Entry.{list_in}
use Rattle.numbers.specs.Numbers.{sound_numbers}
use Rattle.entries.proofs.Writes.{copied, other_command_lem, other_count, list-long, other_numbers, told}
use borrow.Author.Rules.{rules}
use Rattle.entries.proofs.is_write.Goals as goal

pub returns-then-table-at-ne3 : goal.returns-then-table-at-ne3
returns-then-table-at-ne3 c =
    let a = c.args in
    other_command_lem a.key a.front a.table.now a.id (search rules) (search rules) c.if-table-at-ne3.true

pub returns-then-count-ne12 : goal.returns-then-count-ne12
returns-then-count-ne12 c =
    let a = c.args in
    other_count a.key a.front a.table.now a.id (search rules) (search rules) (λ e. c.if-count-ne12.true (c.count.ensures ∙ e))

pub copy-requires : goal.copy-requires
copy-requires c =
    let a = c.args in
    let e = list-long a.key a.front a.table.now a.id (search rules) (search rules) (sym c.count.ensures ∙ c.if-count-ne12.false) in
    rw c.combos.ensures (omega arith)

pub returns-then-not-sound : goal.returns-then-not-sound
returns-then-not-sound c =
    let a = c.args in
    let n = sym c.count.ensures ∙ c.if-count-ne12.false in
    let e = list-long a.key a.front a.table.now a.id (search rules) (search rules) n in
    let b : c.copy.new.list ≡ list_in (block 23 a.table.now a.id) = c.copy.ensures ∙ rw c.combos.ensures (copied _ e) in
    other_numbers a.key a.front a.table.now a.id (search rules) (search rules) n
    (ap (sound_numbers a.front) (sym b) ∙ (sym c.sound.ensures ∙ c.if-not-sound.true))

pub returns : goal.returns
returns c =
    let a = c.args in
    let n = sym c.count.ensures ∙ c.if-count-ne12.false in
    let e = list-long a.key a.front a.table.now a.id (search rules) (search rules) n in
    let b : c.copy.new.list ≡ list_in (block 23 a.table.now a.id) = c.copy.ensures ∙ rw c.combos.ensures (copied _ e) in
    told a.key a.front a.table.now a.id (search rules) (search rules) n (λ i. (c.type_inv.table i).fits)
    (ap (sound_numbers a.front) (sym b) ∙ (sym c.sound.ensures ∙ c.if-not-sound.false))
    (c.copy-2.ensures ∙ rw b refl) c.same.ensures
