-- `room` meets its contract: what is needed fits behind `at`, or does not. Assumes nothing.
use Prim.Native.Nat.{◌+◌}
use mathlib.Core.Path.{ap, sym, ◌∙◌}
use native.Mathlib.Omega.{arith}
use borrow.Author.Tests.{lt-leb}
use lib.Dec.{leb}
use lib.ListN.{length}
use Rattle.putting.specs.taking.Desk.{needed}
use Rattle.one_line.proofs.Laws.{room_behind}
use Rattle.one_line.proofs.room.Goals as goal

pub returns-then-at-page : goal.returns-then-at-page
returns-then-at-page c = let a = c.args in sym (lt-leb (a.at + needed a.show) (length a.page.now) (omega arith))

pub returns : goal.returns
returns c =
    let a = c.args in
    room_behind c.need-n.result a.at (length a.page.now) c.if-at-page.false ∙ ap (λ k. leb (a.at + k) (length a.page.now)) c.need-n.ensures
