-- `spare` meets its contract: each channel behind the board's own is tested, or one with a key is found. Assumes nothing.
use Rattle.std.proofs.Common.{rules, ◌≡◌, ℕ, ◌-◌, ◌<◌, true, false, [], length, take, drop, get_or}
use Rattle.std.proofs.iter.runs.Made.{chains}
use mathlib.Core.Path.{ap, sym, ◌∙◌}
use lib.ListN.{length-drop}
use lib.Seq.{take-length}
use borrow.Author.Tests.{eq-eqb, ne_eqb}
use Rattle.channel.specs.declared.Channel.{Channel}
use Rattle.store.specs.machine.Lists.{all}
use Rattle.shapes.specs.Shapes.{vacant}
use Rattle.open_shape.proofs.Turns.{all_tested}
use Rattle.shapes.proofs.spare.Goals as goal

pub returns : goal.returns
unfolding vacant
returns c =
    let w = c.args.width in
    let cs = c.args.cs in
    let z : length cs ≡ 8 = search rules in
    let ns = take (8 - w) (drop w cs) in
    let l : ns ≡ drop w cs = ap (λ (m : ℕ). take m (drop w cs)) (sym (rw z at (length-drop w cs))) ∙ take-length (drop w cs) in
    let d : Channel = record { key = 0; prec = 0; locked = false; stopped = false; writes = record { n = 0; ids = [] } } in
    let none : c.all.result ≡ true → (i : ℕ) → i < length ns → (get_or ns i d).key ≡ 0 = search (rules, chains) in
    let some : c.all.result ≡ false → (i : ℕ) × (i < length ns) × ((get_or ns i d).key ≡ 0 → ⊥) = search (rules, chains) in
    all_tested vacant d ns c.all.result (λ e i h. eq-eqb _ _ (none e i h)) (λ e. let (i, h, g) = some e in (i, h, ne_eqb _ _ g)) ∙ ap (all vacant) l
