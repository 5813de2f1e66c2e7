-- How the list of who waits meets its promise, case by case; no second list fits; there are at most 64 records. Assumes nothing.
use Prim.Native.Nat.{ℕ, ◌≤◌, ◌<◌}
use mathlib.Core.Path.{◌≡◌, refl, sym, subst, ◌∙◌}
use mathlib.Core.Bool.{Bool, true, false}
use mathlib.Core.List.{List}
use native.Mathlib.Omega.{arith}
use lib.Dec.{T_not, leb, leb→le, nleb→lt}
use lib.ListN.{length}
use Rattle.machine.proofs.Tests.{by_test, test_true}
use Rattle.refusing.proofs.Laws.{false_true}
use Rattle.image.specs.board.declared.Board.{Board}
use Rattle.image.specs.board.Board.{Held}
use Rattle.image.specs.Image.{state_of, is_whole, Whole}
use Rattle.sound.specs.Sound.{Decides, board_test}
use Rattle.sound.proofs.Laws.{yes_T}
use Rattle.sound.proofs.Own.{decides}
use Rattle.sizes.specs.Sizes.{RECORDS}
use Rattle.records.specs.Records.{Lists}
use Rattle.records.proofs.Records.{listed_few}
use Rattle.waiting_list.specs.WaitingList.{Sound, Unlisted, Full, Tells}

-- ---- what the tests say

module _ (st tb : List ℕ) where
  pub no_struct : {x : Bool} → x ≡ is_whole st → x ≡ false → Sound st tb → ⊥
  no_struct e f s = false_true (sym f ∙ e ∙ test_true (is_whole st) s.0)

  pub no_state : {b : Board} {x : Bool} → b ≡ state_of st → Decides x (Held b tb) → x ≡ false → Sound st tb → ⊥
  no_state e d f s = false_true (sym f ∙ d.always (subst (λ (b : Board). Held b tb) (sym e) s.1))

  pub a_state : {b : Board} {w x : Bool} → w ≡ is_whole st → w ≡ true → b ≡ state_of st → Decides x (Held b tb) → x ≡ true → Sound st tb
  a_state g h e d f = (yes_T (is_whole st) (sym g ∙ h), subst (λ (b : Board). Held b tb) e (d.only f))

-- ---- case by case

module _ {st tb l : List ℕ} where
  pub not_sound : (Sound st tb → ⊥) → Tells st tb l 1 0 l
  not_sound n =
      record {
        unsound = λ _. record { error = refl; count = refl; list = refl };
        short = λ s. absurd (n s);
        full = λ s. absurd (n s);
      }

  pub too_short : Sound st tb → length l < 256 → Tells st tb l 5 0 l
  too_short s h =
      record {
        unsound = λ n. absurd (n s);
        short = λ _ _. record { error = refl; count = refl; list = refl };
        full = λ _ g. absurd (omega arith);
      }

  pub all_listed : {n : ℕ} {l' : List ℕ} → Sound st tb → 256 ≤ length l → Lists (state_of st) tb l n l' → Tells st tb l 0 n l'
  all_listed s h t =
      record {
        unsound = λ n. absurd (n s);
        short = λ _ g. absurd (omega arith);
        full = λ _ _. record { error = refl; lists = t };
      }

-- ---- no second list fits

pub sound_or_not {ℓ} : {R : Type ℓ} (st tb : List ℕ) → (Sound st tb → R) → ((Sound st tb → ⊥) → R) → R
sound_or_not {R = R} st tb y z = by_test (is_whole st) whole (λ t. z (λ s. T_not (is_whole st) t s.0))
  where
    go : Whole st → (x : Bool) → Decides x (Held (state_of st) tb) → R
    go w true d = y (w, d.only refl)
    go w false d = z (λ s. false_true (d.always s.1))

    whole : Whole st → R
    whole w = go w (board_test (state_of st) tb) (decides (state_of st) tb)

module _ {l : List ℕ} {e e₂ n n₂ : ℕ} {l₁ l₂ : List ℕ} where
  unlisted_same : {c : ℕ} → Unlisted c l e n l₁ → Unlisted c l e₂ n₂ l₂ → (e ≡ e₂) × (n ≡ n₂) × (l₁ ≡ l₂)
  unlisted_same a b = (a.error ∙ sym b.error, a.count ∙ sym b.count, a.list ∙ sym b.list)

  full_same : {st tb : List ℕ} → Full st tb l e n l₁ → Full st tb l e₂ n₂ l₂ → (e ≡ e₂) × (n ≡ n₂) × (l₁ ≡ l₂)
  full_same a b = (a.error ∙ sym b.error, a.lists.count ∙ sym b.lists.count, a.lists.filled ∙ sym b.lists.filled)

  pub one_list : {st tb : List ℕ} → Tells st tb l e n l₁ → Tells st tb l e₂ n₂ l₂ → (e ≡ e₂) × (n ≡ n₂) × (l₁ ≡ l₂)
  one_list {st} {tb} a b =
      sound_or_not st tb
      (λ s. by_test (leb RECORDS (length l))
      (λ t. let h = leb→le RECORDS (length l) t in full_same (a.full s h) (b.full s h))
      (λ t. let h = nleb→lt RECORDS (length l) t in unlisted_same (a.short s h) (b.short s h)))
      (λ s. unlisted_same (a.unsound s) (b.unsound s))

-- ---- at most 64 records

pub few_listed : {st tb l : List ℕ} {e n : ℕ} {l' : List ℕ} → Tells st tb l e n l' → n ≤ 64
few_listed {st} {tb} {l} {e} {n} a =
    sound_or_not st tb
    (λ s. by_test (leb RECORDS (length l))
    (λ t. full s (a.full s (leb→le RECORDS (length l) t)))
    (λ t. none (a.short s (nleb→lt RECORDS (length l) t))))
    (λ s. none (a.unsound s))
  where
    none : {c : ℕ} {l' : List ℕ} → Unlisted c l e n l' → n ≤ 64
    none u = let k = u.count in omega arith

    full : Sound st tb → {l' : List ℕ} → Full st tb l e n l' → n ≤ 64
    full s u = let k = u.lists.count in let f = listed_few s.1 in omega arith
