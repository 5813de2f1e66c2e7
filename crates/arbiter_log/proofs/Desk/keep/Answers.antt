-- `keep` meets its contract: a text of either form has room on the page. Assumes nothing.
use Prim.Native.Nat.{◌≤◌}
use mathlib.Core.Path.{sym}
use native.Mathlib.Omega.{arith}
use lib.ListN.{length}
use lib.Seq.{length-take-le}
use borrow.Author.Rules.{rules}
use Rattle.keeping.proofs.Keeping.{kept_within}
use Rattle.keeping.proofs.saving.Laws.{page-within}
use Rattle.beginning.proofs.saving2.Laws2.{text2_fits}
use Rattle.arbiter_log.proofs.Desk.keep.Goals.{then-second, else-second}
use Rattle.arbiter_log.proofs.Desk.keep.Goals as goal

pub slice_bounds-page-end-2 : goal.slice_bounds-page-end-2
slice_bounds-page-end-2 c =
    let table = c.args.self.now.table in
    let held = c.args.self.now.ready.held in
    elim c.if-second.branch [
      | then-second w ↦
          let a = page-within w.spell2-n.ensures (text2_fits {b = c.load-board.result} {tb = table} (rw c.load-board.ensures held)) in
          rw (w.n-is, w.page-is) a
      | else-second w ↦
          let a = kept_within w.first_form-n.ensures (rw c.load-board.ensures held) (search rules) in
          let b = w.first_form-n.auto.page in
          let e = w.n-is in
          let l = c.if-second.array_long in
          omega arith
    ]

pub slice_bounds-saved-end : goal.slice_bounds-saved-end
slice_bounds-saved-end c =
    let table = c.args.self.now.table in
    let held = c.args.self.now.ready.held in
    let fits : c.if-second.n ≤ length c.if-second.page =
    elim c.if-second.branch [
      | then-second w ↦
          let a = page-within w.spell2-n.ensures (text2_fits {b = c.load-board.result} {tb = table} (rw c.load-board.ensures held)) in
          rw (w.n-is, w.page-is) a
      | else-second w ↦
          let a = kept_within w.first_form-n.ensures (rw c.load-board.ensures held) (search rules) in
          let b = w.first_form-n.auto.page in
          let e = w.n-is in
          let l = c.if-second.array_long in
          omega arith
    ] in
    sym (length-take-le _ _ fits)
