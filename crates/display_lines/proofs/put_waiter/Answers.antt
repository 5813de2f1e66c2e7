-- `put_waiter` meets its contract: the struct's four bytes are those of its record. Assumes nothing.
use Prim.Native.Nat.{ℕ}
use mathlib.Core.Path.{◌∙◌, ap}
use mathlib.Core.List.{[], ◌∷◌}
use Rattle.spelling.specs.machine.Log.{line}
use Rattle.spelling.specs.memory.Splice.{splice}
use Rattle.display_lines.proofs.DisplayLines.{byte_held}
use Rattle.display_lines.proofs.put_waiter.Goals as goal

pub returns : goal.returns
returns c =
    let a = c.args in
    c.put_record.ensures
    ∙ ap (λ (h : ℕ). splice a.out.now a.at (line (0xE1 ∷ a.w.id ∷ a.w.prec ∷ h ∷ a.w.desk ∷ []))) (c.from.ensures ∙ byte_held a.w.held)
