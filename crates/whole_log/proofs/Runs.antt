-- For every log, and every cut of it into lumps, there is a run: each call of `fill` on an empty page with room for a line uses
-- some of the lump, and the page is then written. Assumes nothing.
use Prim.Native.Nat.{ℕ, zero, suc, ◌+◌, ◌≤◌, ◌<◌}
use mathlib.Core.Path.{◌≡◌, refl, ap, sym, ◌∙◌}
use mathlib.Core.List.{List, [], ◌∷◌, ◌++◌}
use native.Mathlib.Omega.{arith}
use borrow.Author.Tests.{eqb-true, le-leb}
use lib.Dec.{T, eqb}
use lib.ListN.{length, take, drop, length-drop}
use Rattle.std.specs.Prelude.{if◌then◌else◌}
use Rattle.widening.specs.machine.State.{fresh_on}
use Rattle.display.specs.Display.{blank}
use Rattle.widening.proofs.machine.Tests.{if_elim, test_true}
use Rattle.board.specs.declared.Board.{Board}
use Rattle.board.specs.store.Store.{table_of}
use Rattle.board.specs.Board.{sized, struct_of, state_in, Held}
use Rattle.gathering.specs.Lumps.{LINE}
use Rattle.paging.specs.taking.declared.Show.{Show}
use Rattle.paging.specs.taking.Desk.{Taken, Desk, desk_of, needed, fits, filled, closed, finished, Leaves}
use Rattle.paging.proofs.taking.Kept.{held_fine}
use Rattle.paging.specs.Paging.{Fills}
use Rattle.finishing.specs.Finishing.{Finishes}
use Rattle.finishing.proofs.Laws.{finished_fits}
use Rattle.whole_log.specs.Whole.{joined, fills, used_up, finishes, writes, over, Runs}
use Rattle.whole_log.proofs.Progress.{Good, Went, filled-went, filled_on, finished-went, left_held}
use Rattle.whole_log.proofs.Whole.{fresh_held}

-- a desk, as a call would leave it
abbrev taken_of : Desk → Taken
taken_of d = record { state = struct_of d.state; line = d.n; used = d.used; at = d.at }

leaves_it : (d : Desk) {l : List ℕ} → l ≡ d.line → Leaves (taken_of d) l (table_of d.state) d.display d.page d
leaves_it d e = record { struct = refl; table = refl; display = refl; line = e; started = refl; page = refl; at = refl; used = refl }

-- nothing stands of a line once the log is closed, and the line's bytes are as they were
module _ (show : Show) (d : Desk) where
  closed_empty : (closed show d).n ≡ 0
  unfolding closed
  closed_empty = if_elim (λ (x : Desk). x.n ≡ 0) (eqb d.n 0) (λ y. eqb-true d.n 0 (test_true (eqb d.n 0) y)) (λ _. refl)

  closed_line : (closed show d).line ≡ d.line
  unfolding closed
  closed_line = if_elim (λ (x : Desk). x.line ≡ d.line) (eqb d.n 0) (λ _. refl) (λ _. refl)

-- whatever is kept, the bytes bss come to some output
abbrev Come : Show → List (List ℕ) → Type 0
Come show bss =
    (s : Board) (tb dp l : List ℕ) (n : ℕ) (page : List ℕ) → Held s tb → length dp ≡ 18 → n ≤ LINE → needed show ≤ length page → Runs show s tb dp l n page bss

module _ (show : Show) where
  ends : Come show []
  ends s tb dp l n page h e k r =
      let d = desk_of s tb dp l n page 0 in
      let f = finished_fits show d (le-leb (0 + needed show) (length page) (omega arith)) in
      let x = finished show d in
      let w : Finishes show s tb dp l n page 0 (taken_of x) (table_of x.state) x.display x.page = record { leaves = leaves_it x (sym (ap (λ (y : Desk). y.line) f ∙ closed_line show d)) } in
      record { out = take x.at x.page ++ []; ran = finishes w (writes (over (ap (λ (y : Desk). y.n) f ∙ closed_empty show d))) }

  none : (bss : List (List ℕ)) → Come show bss → Come show ([] ∷ bss)
  none bss next s tb dp l n page h f k r = let c = next s tb dp l n page h f k r in record { out = c.out; ran = used_up c.ran }

  lump : (bss : List (List ℕ)) → Come show bss → (m : ℕ) (bs : List ℕ) → length bs ≤ m → Come show (bs ∷ bss)
  lump bss next zero [] e s tb dp l n page h f k r = none bss next s tb dp l n page h f k r
  lump bss next (suc m) [] e s tb dp l n page h f k r = none bss next s tb dp l n page h f k r
  lump bss next zero (b ∷ bs) e s tb dp l n page h f k r = absurd (omega arith)
  lump bss next (suc m) (b ∷ bs) e s tb dp l n page h f k r =
      let cs = b ∷ bs in
      let d = desk_of s tb dp l n page 0 in
      let x = filled show d cs in
      let g : Good d = record { fine = held_fine h; within = k; inside = omega arith; shown = f } in
      let v = filled-went show d cs g in
      let u = filled_on show d cs g (le-leb (0 + needed show) (length page) (omega arith)) (omega arith) in
      let z = length-drop x.used cs in
      let y = v.size in
      let w : Fills show s tb dp l n cs page 0 (taken_of x) x.line (table_of x.state) x.display x.page = record { leaves = leaves_it x refl } in
      let c = lump bss next m (drop x.used cs) (omega arith) (struct_of x.state) (table_of x.state) x.display x.line x.n x.page (left_held v w.leaves) v.good.shown v.good.within (omega arith) in
      record { out = take x.at x.page ++ c.out; ran = fills w (writes c.ran) }

  lumps : (bss : List (List ℕ)) → Come show bss
  lumps [] = ends
  lumps (bs ∷ bss) = lump bss (lumps bss) (length bs) bs (omega arith)

-- from the fresh device, on any page with room for a line's output: a run, and by `whole_log-shown` its output is the log's
pub run_exists : (w : ℕ) → T (sized w) → (show : Show) (bss : List (List ℕ)) (l page : List ℕ) → needed show ≤ length page
    → Runs show (struct_of (fresh_on w)) (table_of (fresh_on w)) blank l 0 page bss
run_exists w t show bss l page r = lumps show bss (struct_of (fresh_on w)) (table_of (fresh_on w)) blank l 0 page (fresh_held w t) refl (omega arith) r
