-- `owned` meets its contract: the code's two tests are the definition's two. Assumes nothing.
use mathlib.Core.Path.{◌≡◌}
use mathlib.Core.Bool.{true, false}
use Rattle.span_entries.proofs.owned.Goals as goal

pub returns-then-c : goal.returns-then-c
returns-then-c c =
    let h : c.args.c.locked ≡ true = c.if-c.true in
    rw h

pub returns-else-c : goal.returns-else-c
returns-else-c c =
    let h : c.args.c.locked ≡ false = c.if-c.false in
    rw h
