-- How a loaded text meets its promise, case by case; no second outcome fits. Assumes nothing.
use Prim.Native.Nat.{ℕ}
use mathlib.Core.Path.{◌≡◌, refl, subst}
use mathlib.Core.List.{List}
use Rattle.machine.specs.State.{State}
use Rattle.image.specs.board.declared.Board.{Board}
use Rattle.image.specs.board.Board.{state_in}
use Rattle.accepting.specs.saved.Saved.{TextOf}
use Rattle.accepting.specs.Accepting.{Yes}
use Rattle.accepting.proofs.Accepting.{one_spelling}
use Rattle.loading.specs.Loading.{Fits, Loaded, Loads}

-- ---- case by case

module _ {w : ℕ} {t st tb dp : List ℕ} where
  pub does_not_fit : (Fits st tb dp → ⊥) → Loads w t st tb dp 1 st tb dp
  does_not_fit n =
      record {
        misfit = λ _. record { result = refl; state = refl; table = refl; display = refl };
        another = λ f. absurd (n f);
        refused = λ f. absurd (n f);
        loaded = λ f. absurd (n f);
      }

  pub not_four : Fits st tb dp → (w ≡ 4 → ⊥) → Loads w t st tb dp 9 st tb dp
  not_four f n =
      record {
        misfit = λ m. absurd (m f);
        another = λ _ _. record { result = refl; state = refl; table = refl; display = refl };
        refused = λ _ _. record { result = refl; state = refl; table = refl; display = refl };
        loaded = λ _ e. absurd (n e);
      }

  pub not_saved : Fits st tb dp → w ≡ 4 → ((s : State) → TextOf 4 s t → ⊥) → Loads w t st tb dp 9 st tb dp
  not_saved f e n =
      record {
        misfit = λ m. absurd (m f);
        another = λ _ m. absurd (m e);
        refused = λ _ _. record { result = refl; state = refl; table = refl; display = refl };
        loaded = λ _ _ s h. absurd (n s h);
      }

  pub was_saved : {b : Board} {read st' tb' dp' : List ℕ} → Fits st tb dp → w ≡ 4 → Yes t b read → Loaded (state_in b read) 0 st' tb' dp' → Loads w t st tb dp 0 st' tb' dp'
  was_saved {st' = st'} {tb' = tb'} {dp' = dp'} f e y whole =
      record {
        misfit = λ m. absurd (m f);
        another = λ _ m. absurd (m e);
        refused = λ _ n. absurd (n _ y.text);
        loaded = λ _ _ s h. subst (λ x. Loaded x 0 st' tb' dp') (one_spelling y.text h) whole;
      }
