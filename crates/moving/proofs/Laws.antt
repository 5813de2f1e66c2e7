-- How a text that is moved meets its promise, case by case; no second outcome fits. Assumes nothing.
use Prim.Native.Nat.{ℕ, ◌≤◌, ◌<◌}
use mathlib.Core.Path.{◌≡◌, refl, ap, sym, subst, ◌∙◌}
use mathlib.Core.Bool.{true, false}
use mathlib.Core.List.{List}
use native.Mathlib.Omega.{arith}
use lib.Dec.{leb, leb→le, nleb→lt}
use lib.ListN.{length, take}
use Rattle.std.specs.Prelude.{Option, Some, None, is_some}
use Rattle.machine.specs.State.{State}
use Rattle.machine.proofs.Tests.{by_test}
use Rattle.board.specs.Board.{state_in}
use Rattle.accepting2.specs.hex_lines.HexLines.{Put}
use Rattle.loading.specs.saved.Saved.{text, TextOf}
use Rattle.board.specs.declared.Board.{Board}
use Rattle.loading.specs.accepting.Accepting.{Yes}
use Rattle.loading.proofs.accepting.Accepting.{false_true, one_spelling, text_or_not}
use Rattle.loading.specs.saving.Saving.{Unwritten}
use Rattle.loading.proofs.saving.Laws.{page-within}
use Rattle.accepting2.specs.saved2.Saved2.{text2, TextOf2}
use Rattle.accepting2.specs.saving2.Saving2.{Fills}
use Rattle.accepting2.proofs.saving2.Laws2.{taken_front, unwritten_same, fills_same}
use Rattle.accepting2.proofs.read_back2.ReadBack2.{one_spelling2, one_width}
use Rattle.accepting2.specs.Accepting2.{Yes2, Accepts2}
use Rattle.accepting2.proofs.Accepting2.{saved2_or_not}
use Rattle.moving.specs.Moving.{MovesNew, MovesOld}

-- a text of four channels is none of eight
pub not_both : {s u : State} {t : List ℕ} → TextOf2 4 s t → TextOf2 8 u t → ⊥
not_both a b = let e = one_width a b in omega arith

-- what the eight-channel board does not take is no text of eight channels
pub no_eight : (t : List ℕ) (f : Option Board) (read : List ℕ) → Accepts2 8 t f read → is_some f ≡ false → (s : State) → TextOf2 8 s t → ⊥
no_eight t (Some b) read y e = absurd (false_true (sym e))
no_eight t None read y e = y.0

-- ---- case by case

module _ {t l : List ℕ} where
  pub no_old_text : ((s : State) → TextOf 4 s t → ⊥) → MovesNew t l 9 0 l
  no_old_text n = record { refused = λ _. record { error = refl; count = refl; room = refl }; moved = λ s h. absurd (n s h) }

  pub moved_new : {b : Board} {read z page l' : List ℕ} {e n k : ℕ} → Yes t b read → Put z 0 (text2 (state_in b read)) k page → Fills (take k page) l e n l' → MovesNew t l e n l'
  moved_new {l' = l'} {e = e} {n = n} y p g =
      record {
        refused = λ m. absurd (m _ y.text);
        moved = λ s h. subst (λ vs. Fills vs l e n l') (taken_front p ∙ ap text2 (one_spelling y.text h)) g;
      }

  pub no_new_text : ((s : State) → TextOf2 4 s t → ⊥) → ((s : State) → TextOf2 8 s t → ⊥) → MovesOld t l 9 0 l
  no_new_text n m =
      record {
        refused = λ _ _. record { error = refl; count = refl; room = refl };
        eight = λ s h. absurd (m s h);
        moved = λ s h. absurd (n s h);
      }

  pub has_eight : (f : Option Board) (read : List ℕ) → Accepts2 8 t f read → is_some f ≡ true → MovesOld t l 10 0 l
  has_eight (Some b) read y e =
      record {
        refused = λ _ m. absurd (m _ y.text);
        eight = λ _ _. record { error = refl; count = refl; room = refl };
        moved = λ s h. absurd (not_both h y.text);
      }
  has_eight None read y e = absurd (false_true e)

  pub moved_old : {b : Board} {read z page l' : List ℕ} {e n k : ℕ} → Yes2 4 t b read → Put z 0 (text (state_in b read)) k page → Fills (take k page) l e n l' → MovesOld t l e n l'
  moved_old {l' = l'} {e = e} {n = n} y p g =
      record {
        refused = λ m _. absurd (m _ y.text);
        eight = λ s h. absurd (not_both y.text h);
        moved = λ s h. subst (λ vs. Fills vs l e n l') (taken_front p ∙ ap text (one_spelling2 y.text h)) g;
      }

-- ---- no second outcome fits

module _ {t l : List ℕ} {e e₂ n n₂ : ℕ} {l₁ l₂ : List ℕ} where
  pub one_moving_new : MovesNew t l e n l₁ → MovesNew t l e₂ n₂ l₂ → (e ≡ e₂) × (n ≡ n₂) × (l₁ ≡ l₂)
  one_moving_new a b =
      text_or_not t (λ s h. fills_same (a.moved s h) (b.moved s h)) (λ m. unwritten_same (a.refused m) (b.refused m))

  pub one_moving_old : MovesOld t l e n l₁ → MovesOld t l e₂ n₂ l₂ → (e ≡ e₂) × (n ≡ n₂) × (l₁ ≡ l₂)
  one_moving_old a b =
      saved2_or_not 4 t tt (λ s h. fills_same (a.moved s h) (b.moved s h))
      (λ m. saved2_or_not 8 t tt (λ s h. unwritten_same (a.eight s h) (b.eight s h)) (λ k. unwritten_same (a.refused m k) (b.refused m k)))

-- ---- no more is written than there is room

unwritten-within : {c e n : ℕ} {l l' : List ℕ} → Unwritten c l e n l' → n ≤ length l'
unwritten-within u = let k = u.count in omega arith

fills-within : {vs l l' : List ℕ} {e n : ℕ} → Fills vs l e n l' → n ≤ length l'
fills-within {vs} {l} f =
    by_test (leb (length vs) (length l))
    (λ t. let h = leb→le (length vs) (length l) t in page-within (f.full h).put h)
    (λ t. unwritten-within (f.short (nleb→lt (length vs) (length l) t)))

module _ {t l l' : List ℕ} {e n : ℕ} where
  pub new_within : MovesNew t l e n l' → n ≤ length l'
  new_within a = text_or_not t (λ s h. fills-within (a.moved s h)) (λ m. unwritten-within (a.refused m))

  pub old_within : MovesOld t l e n l' → n ≤ length l'
  old_within a =
      saved2_or_not 4 t tt (λ s h. fills-within (a.moved s h))
      (λ m. saved2_or_not 8 t tt (λ s h. unwritten-within (a.eight s h)) (λ k. unwritten-within (a.refused m k)))
