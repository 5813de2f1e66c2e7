-- What stands of a last line, put on the page, is what `finished` says. Assumes nothing.
use Prim.Native.Nat.{ℕ, ◌≤◌}
use mathlib.Core.Path.{◌≡◌, ap, sym, ◌∙◌}
use mathlib.Core.Bool.{true, false}
use mathlib.Core.List.{List}
use native.Mathlib.Omega.{arith}
use borrow.Author.Tests.{eqb-true, eqb-false}
use lib.Dec.{eqb}
use lib.ListN.{length}
use Rattle.machine.proofs.Tests.{by_test, test_true, test_false}
use Rattle.image.specs.board.declared.Board.{Board}
use Rattle.image.specs.board.Board.{state_in, Held}
use Rattle.one_line.specs.gathering.Lumps.{used}
use Rattle.one_line.specs.taking.declared.Show.{Show}
use Rattle.one_line.specs.taking.Desk.{Taken, hidden, Desk, desk_of, fits, closed, finished, Ends, Same}
use Rattle.one_line.proofs.taking.Kept.{held_fine, closed_fine, leaves_held}
use Rattle.one_line.proofs.taking.Laws.{one_leaving, closed_none, closed_some}
use Rattle.one_line.specs.putting.Putting.{Puts}
use Rattle.one_line.proofs.putting.Laws.{nothing_put, answered_few, answered-size, answer-put}
use Rattle.one_line.proofs.Laws.{stays}
use Rattle.finishing.specs.Finishing.{Finishes}

-- ---- the end

module _ (show : Show) (d : Desk) where
  pub finished_fits : fits show d ≡ true → finished show d ≡ closed show d
  unfolding finished
  finished_fits e = rw e

  pub finished-full : fits show d ≡ false → finished show d ≡ d
  unfolding finished
  finished-full e = rw e

module _ {s : Board} {tb dp l out : List ℕ} {n : ℕ} {t : Taken} {tb' dp' out' : List ℕ} (w : Ends s tb dp l n out t tb' dp' out') where
  pub end_few : Held s tb → t.at ≤ 973
  end_few h =
      by_test (eqb n 0)
      (λ y. let e = eqb-true n 0 (test_true (eqb n 0) y) in let v = rw (closed_none hidden (desk_of s tb dp l n out 0) e) at w.leaves in let z : t.at ≡ 0 = v.at in omega arith)
      (λ y. let e = eqb-false n 0 (test_false (eqb n 0) y) in answered_few (state_in s tb) dp l out n 0 (rw (closed_some hidden (desk_of s tb dp l n out 0) e) at w.leaves) h.sane)

  pub end_size : Held s tb → 973 ≡ length out → 973 ≡ length out'
  end_size h z =
      by_test (eqb n 0)
      (λ y. let e = eqb-true n 0 (test_true (eqb n 0) y) in let v = rw (closed_none hidden (desk_of s tb dp l n out 0) e) at w.leaves in z ∙ ap length (sym v.page))
      (λ y. let e = eqb-false n 0 (test_false (eqb n 0) y) in answered-size (state_in s tb) dp l out n 0 (rw (closed_some hidden (desk_of s tb dp l n out 0) e) at w.leaves) h.sane z)

  pub end_held : Held s tb → Held t.state tb'
  end_held h = leaves_held (closed_fine hidden (desk_of s tb dp l n out 0) (held_fine h)) w.leaves

  pub end_put : {show : Show} {page page' : List ℕ} {at : ℕ} {r : Taken} → Held s tb → fits show (desk_of s tb dp l n page at) ≡ true
      → Puts show t tb' dp' out' page at r page' → Finishes show s tb dp l n page at r tb' dp' page'
  end_put {show} {page} {page'} {at} h f p =
      record {
        leaves = rw (finished_fits show (desk_of s tb dp l n page at) f)
            (by_test (eqb n 0)
            (λ y. let e = eqb-true n 0 (test_true (eqb n 0) y) in
            rw (closed_none show (desk_of s tb dp l n page at) e) (nothing_put (state_in s tb) dp l out n 0 (rw (closed_none hidden (desk_of s tb dp l n out 0) e) at w.leaves) p))
            (λ y. let e = eqb-false n 0 (test_false (eqb n 0) y) in
            rw (closed_some show (desk_of s tb dp l n page at) e) (answer-put (state_in s tb) dp l out n 0 (rw (closed_some hidden (desk_of s tb dp l n out 0) e) at w.leaves) (held_fine h) p)));
      }

pub full-stays : (show : Show) {s : Board} {tb : List ℕ} → Held s tb → (dp l : List ℕ) (n : ℕ) (page : List ℕ) (at : ℕ) → fits show (desk_of s tb dp l n page at) ≡ false
    → Finishes show s tb dp l n page at (record { state = s; line = n; used = 0; at = at }) tb dp page
full-stays show {s} {tb} h dp l n page at f = record { leaves = rw (finished-full show (desk_of s tb dp l n page at) f) (stays h dp l n page at 0) }

-- ---- no second outcome fits

pub one_finishing : {show : Show} {s : Board} {tb dp l : List ℕ} {n : ℕ} {page : List ℕ} {at : ℕ} {t t₂ : Taken} {tb₁ tb₂ dp₁ dp₂ page₁ page₂ : List ℕ}
    → Finishes show s tb dp l n page at t tb₁ dp₁ page₁ → Finishes show s tb dp l n page at t₂ tb₂ dp₂ page₂ → Same t t₂ l l tb₁ tb₂ dp₁ dp₂ page₁ page₂
one_finishing a b = one_leaving a.leaves b.leaves
