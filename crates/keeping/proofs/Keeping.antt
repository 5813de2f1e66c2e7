-- What is kept fits its page, and no second outcome fits the promise. Assumes nothing.
use Prim.Native.Nat.{ℕ, ◌≤◌}
use mathlib.Core.Path.{◌≡◌, refl, ap, sym, ◌∙◌}
use mathlib.Core.Bool.{Bool, true, false}
use mathlib.Core.List.{List}
use native.Mathlib.Omega.{arith}
use borrow.Author.Tests.{eqb-true, eqb-false}
use lib.Dec.{eqb}
use lib.ListN.{length}
use Rattle.board.specs.declared.Board.{Board}
use Rattle.board.specs.Board.{Held}
use Rattle.saving.proofs.Laws.{text_fits, page-within}
use Rattle.keeping.specs.Keeping.{Kept}

module _ {b : Board} {tb l : List ℕ} {n : ℕ} {l' : List ℕ} (k : Kept b tb l n l') where
  within_by : Held b tb → length l ≡ 3344 → (t : Bool) → eqb b.width 4 ≡ t → n ≤ length l'
  within_by h e true w = page-within (k.four (eqb-true b.width 4 w)) (rw e (text_fits h (eqb-true b.width 4 w)))
  within_by h e false w = let z = (k.other (eqb-false b.width 4 w)).0 in omega arith

  pub kept_within : Held b tb → length l ≡ 3344 → n ≤ length l'
  kept_within h e = within_by h e (eqb b.width 4) refl

  one_by : {m : ℕ} {l'' : List ℕ} → Kept b tb l m l'' → (t : Bool) → eqb b.width 4 ≡ t → (n ≡ m) × (l' ≡ l'')
  one_by j true w =
      let f = k.four (eqb-true b.width 4 w) in
      let g = j.four (eqb-true b.width 4 w) in
      (f.next ∙ sym g.next, f.bytes ∙ sym g.bytes)
  one_by j false w =
      let f = k.other (eqb-false b.width 4 w) in
      let g = j.other (eqb-false b.width 4 w) in
      (f.0 ∙ sym g.0, f.1 ∙ sym g.1)

  pub one_kept : {m : ℕ} {l'' : List ℕ} → Kept b tb l m l'' → (n ≡ m) × (l' ≡ l'')
  one_kept j = one_by j (eqb b.width 4) refl
