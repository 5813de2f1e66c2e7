-- What the program begins with is held: the fresh device, and a table of zeros; or what was loaded. Assumes nothing.
use Prim.Native.Nat.{ℕ}
use mathlib.Core.Path.{◌≡◌, refl, ap, sym, subst, ◌∙◌}
use mathlib.Core.Bool.{Bool, true, false}
use mathlib.Core.List.{List}
use lib.Dec.{T}
use lib.ListN.{length, replicate}
use Rattle.std.specs.Prelude.{Option, Some}
use Rattle.machine.specs.State.{frees, fresh_on}
use Rattle.display.specs.Display.{blank}
use Rattle.carrying.specs.store.Store.{table_of, entries, lookup, items, write_items}
use Rattle.carrying.specs.board.declared.Board.{Board}
use Rattle.carrying.specs.board.Board.{sized, fresh_board, Held}
use Rattle.carrying.proofs.board.Laws.{table-wide, fresh_of}
use Rattle.carrying.proofs.whole_log.Whole.{fresh_held}
use Rattle.carrying.proofs.accepting.Accepting.{false_true}
use Rattle.carrying.specs.Carrying.{Resumes, Resumes2}
use Rattle.carrying.proofs.Carrying.{resumed_held, resumed_held2}
use Rattle.beginning.specs.Beginning.{Begins}

none_table : table_of (fresh_on 0) ≡ replicate 1472 0
unfolding table_of entries lookup items write_items frees
none_table = refl

fresh-table : (w : ℕ) → table_of (fresh_on w) ≡ replicate 1472 0
unfolding frees
fresh-table w = table-wide w (fresh_on 0) ∙ none_table

fresh-begun : (w : ℕ) → T (sized w) → {s : Board} → s ≡ fresh_board w → Held s (replicate 1472 0)
fresh-begun w t {s} e = subst (Held s) (fresh-table w) (subst (λ (x : Board). Held x (table_of (fresh_on w))) (sym (e ∙ fresh_of w t)) (fresh_held w t))

module _ {load second : Bool} {w : ℕ} {tb dp : List ℕ} where
  pub begins-fresh : T (sized w) → {s : Board} → load ≡ false → s ≡ fresh_board w → tb ≡ replicate 1472 0 → dp ≡ blank → Begins load second w (Some s) tb dp
  begins-fresh t {s} n e a b =
      record {
        fresh = λ _. (ap Some e, a, b);
        loaded = λ y _. absurd (false_true (sym n ∙ y));
        loaded2 = λ y _. absurd (false_true (sym n ∙ y));
        held = subst (Held s) (sym a) (fresh-begun w t e);
        shown = ap length b;
      }

  pub begins-loaded : {t d : List ℕ} (f : Option Board) → load ≡ true → second ≡ false → d ≡ blank → Resumes t d f tb dp
      → length dp ≡ 18 → Begins load second w f tb dp
  begins-loaded {t} f y z e r k =
      record {
        fresh = λ n. absurd (false_true (sym n ∙ y));
        loaded = λ _ _. record { text = t; resumes = subst (λ (d : List ℕ). Resumes t d f tb dp) e r };
        loaded2 = λ _ m. absurd (false_true (sym z ∙ m));
        held = resumed_held f r;
        shown = k;
      }

  pub begins-loaded2 : {t d : List ℕ} (f : Option Board) → load ≡ true → second ≡ true → d ≡ blank → Resumes2 w t d f tb dp
      → length dp ≡ 18 → Begins load second w f tb dp
  begins-loaded2 {t} f y z e r k =
      record {
        fresh = λ n. absurd (false_true (sym n ∙ y));
        loaded = λ _ m. absurd (false_true (sym m ∙ z));
        loaded2 = λ _ _. record { text = t; resumes = subst (λ (d : List ℕ). Resumes2 w t d f tb dp) e r };
        held = resumed_held2 f r;
        shown = k;
      }
