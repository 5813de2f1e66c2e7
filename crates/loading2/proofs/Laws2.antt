-- How a loaded text of the second form meets its promise, case by case; no second outcome fits; what neither loader takes.
-- Assumes nothing.
use Prim.Native.Nat.{ℕ}
use mathlib.Core.Path.{◌≡◌, refl, ap, sym, subst, ◌∙◌}
use mathlib.Core.Bool.{Bool, false}
use mathlib.Core.List.{List}
use native.Mathlib.Omega.{arith}
use lib.Dec.{T, T_not}
use lib.ListN.{length, get_or, take}
use lib.Seq.{get_or-take}
use Rattle.machine_laws.specs.machine.State.{State}
use Rattle.machine_laws.specs.machine.Sound.{sound}
use Rattle.machine_laws.specs.machine.Log.{line, hex_digit}
use Rattle.machine_laws.proofs.machine.Tests.{by_test}
use Rattle.image.specs.board.declared.Board.{Board}
use Rattle.image.specs.board.Board.{sized, state_in}
use Rattle.loading.specs.saved.Saved.{FIRST}
use Rattle.loading.specs.Loading.{Fits, Unmoved, Loaded, Loads}
use Rattle.loading.proofs.RoundTrip.{fits_or_not, unmoved_same, loaded_same}
use Rattle.accepting2.specs.read_back.ReadBack.{Bytes}
use Rattle.accepting2.specs.number_lines.NumberLines.{number_lines}
use Rattle.accepting2.specs.saved2.Saved2.{SECOND, number_frames, TextOf2}
use Rattle.accepting2.specs.read_back2.ReadBack2.{text_with}
use Rattle.accepting2.proofs.read_back2.ReadBack2.{one_spelling2, numbers-counted, opens_first, opens-second}
use Rattle.accepting2.specs.Accepting2.{Yes2}
use Rattle.accepting2.proofs.Accepting2.{saved2_or_not}
use Rattle.loading2.specs.Loading2.{Loads2}

pub no_T : {b : Bool} → b ≡ false → T b → ⊥
no_T e t = subst (λ x. T x) e t

-- ---- case by case
-- Kept beside those of `Loads`: the clauses of the two promises are records of their own, each with its edits.

module _ {w : ℕ} {t st tb dp : List ℕ} where
  pub does_not_fit : (Fits st tb dp → ⊥) → Loads2 w t st tb dp 1 st tb dp
  does_not_fit n =
      record {
        misfit = λ _. record { result = refl; state = refl; table = refl; display = refl };
        another = λ f. absurd (n f);
        refused = λ f. absurd (n f);
        loaded = λ f. absurd (n f);
      }

  pub no_board : Fits st tb dp → (T (sized w) → ⊥) → Loads2 w t st tb dp 9 st tb dp
  no_board f n =
      record {
        misfit = λ m. absurd (m f);
        another = λ _ _. record { result = refl; state = refl; table = refl; display = refl };
        refused = λ _ _. record { result = refl; state = refl; table = refl; display = refl };
        loaded = λ _ e. absurd (n e);
      }

  pub not_saved : Fits st tb dp → T (sized w) → ((s : State) → TextOf2 w s t → ⊥) → Loads2 w t st tb dp 9 st tb dp
  not_saved f z n =
      record {
        misfit = λ m. absurd (m f);
        another = λ _ m. absurd (m z);
        refused = λ _ _. record { result = refl; state = refl; table = refl; display = refl };
        loaded = λ _ _ s h. absurd (n s h);
      }

  pub was_saved : {b : Board} {read st' tb' dp' : List ℕ} → Fits st tb dp → T (sized w) → Yes2 w t b read → Loaded (state_in b read) 0 st' tb' dp' → Loads2 w t st tb dp 0 st' tb' dp'
  was_saved {st' = st'} {tb' = tb'} {dp' = dp'} f z y whole =
      record {
        misfit = λ m. absurd (m f);
        another = λ _ m. absurd (m z);
        refused = λ _ n. absurd (n _ y.text);
        loaded = λ _ _ s h. subst (λ x. Loaded x 0 st' tb' dp') (one_spelling2 y.text h) whole;
      }

-- ---- no second outcome fits

module _ {r r₂ : ℕ} {st₁ st₂ tb₁ tb₂ dp₁ dp₂ : List ℕ} where
  pub one_loading2 : {w : ℕ} {t st tb dp : List ℕ} → Loads2 w t st tb dp r st₁ tb₁ dp₁ → Loads2 w t st tb dp r₂ st₂ tb₂ dp₂ → (r ≡ r₂) × (st₁ ≡ st₂) × (tb₁ ≡ tb₂) × (dp₁ ≡ dp₂)
  one_loading2 {w} {t} {st} {tb} {dp} a b =
      fits_or_not st tb dp
      (λ f. by_test (sized w)
      (λ z. saved2_or_not w t z (λ s h. loaded_same (a.loaded f z s h) (b.loaded f z s h)) (λ n. unmoved_same (a.refused f n) (b.refused f n)))
      (λ z. unmoved_same (a.another f (T_not (sized w) z)) (b.another f (T_not (sized w) z))))
      (λ n. unmoved_same (a.misfit n) (b.misfit n))

-- ---- what neither loader takes

fourth : (t l : List ℕ) → take 5 t ≡ l → get_or t 3 0 ≡ get_or l 3 0
fourth t l e = sym (get_or-take 5 t 3 0 (omega arith)) ∙ ap (λ x. get_or x 3 0) e

module _ {w : ℕ} {t st tb dp : List ℕ} {r : ℕ} {st' tb' dp' : List ℕ} (f : Fits st tb dp) where
  -- "The new loader refuses D001 with 9"
  pub first_refused : take 5 t ≡ line FIRST → Loads2 w t st tb dp r st' tb' dp' → Unmoved 9 st tb dp r st' tb' dp'
  unfolding line hex_digit
  first_refused e a = a.refused f (λ s h. let k = fourth t (line FIRST) e in let m = opens-second h in omega arith)

  -- "and the old loader D002 likewise"
  pub second-refused : take 5 t ≡ line SECOND → Loads w t st tb dp r st' tb' dp' → Unmoved 9 st tb dp r st' tb' dp'
  unfolding line hex_digit
  second-refused e a = a.refused f (λ s h. let k = fourth t (line SECOND) e in let m = opens_first h in omega arith)

  -- "a text that neither board's loader accepts, as when its numbers disagree with a count"
  pub uncounted_refused : (s : State) → T (sound s) → (d : List ℕ) → Bytes d → (number_lines (length s.channels) d ≡ number_frames (length s.channels) s → ⊥)
      → t ≡ text_with (number_lines (length s.channels) d) s → Loads2 w t st tb dp r st' tb' dp' → Unmoved 9 st tb dp r st' tb' dp'
  uncounted_refused s sane d bs n e a = a.refused f (λ u h. n (numbers-counted s sane d bs (subst (λ x. TextOf2 w u x) e h)))
