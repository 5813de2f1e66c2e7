-- How a saved state meets its promise, case by case; no second text fits. Assumes nothing.
use Prim.Native.Nat.{ℕ, ◌+◌, ◌≤◌, ◌<◌}
use mathlib.Core.Path.{◌≡◌, refl, ap, sym, subst, ◌∙◌}
use mathlib.Core.List.{List, [], ◌∷◌}
use native.Mathlib.Omega.{arith}
use lib.Dec.{T, T_not, eqb, eqb→eq, leb, leb→le, nleb→lt}
use lib.ListN.{length, take, drop}
use lib.Seq.{take_at}
use Rattle.memory.specs.Splice.{splice}
use Rattle.memory.proofs.Splice.{length-splice}
use Rattle.machine.specs.State.{State}
use Rattle.machine.specs.Log.{line, hex_digit}
use Rattle.machine.proofs.Tests.{by_test}
use Rattle.image.specs.board.declared.Board.{Board}
use Rattle.image.specs.board.Board.{state_in, Held}
use Rattle.image.proofs.board.Laws.{held_width}
use Rattle.image.specs.Image.{state_of}
use Rattle.waiting_list.specs.WaitingList.{Sound}
use Rattle.waiting_list.proofs.Laws.{sound_or_not}
use Rattle.hex_lines.specs.HexLines.{Put}
use Rattle.saved_lines.specs.saved.Saved.{frames, spelt, text}
use Rattle.saved_lines.proofs.saved.Lengths.{frames_most, text_most}
use Rattle.saved_lines.proofs.frame_lines.FrameLines.{put_then}
use Rattle.saving.specs.Saving.{held_by, Unwritten, Full, Saves}

-- ---- the text on a page

module _ {b : Board} {tb : List ℕ} (h : Held b tb) (w : b.width ≡ 4) where
  four : length (state_in b tb).channels ≡ 4
  four = sym (held_width h) ∙ w

  pub frames_fit : 5 + length (spelt (frames (state_in b tb))) ≤ 3344
  frames_fit = let e = frames_most (state_in b tb) h.sane in let f = four in omega arith

  pub text_fits : length (text (state_in b tb)) ≤ 3344
  text_fits = text_most (state_in b tb) h.sane four

-- the first line, then the others
pub text-put : {page page₁ page₂ : List ℕ} {r : ℕ} (s : State) → 5 ≤ length page → page₁ ≡ splice page 0 (68 ∷ 48 ∷ 48 ∷ 49 ∷ 10 ∷ []) → Put page₁ 5 (spelt (frames s)) r page₂ → Put page 0 (text s) r page₂
unfolding text spelt line hex_digit
text-put s l e p = put_then (record { bytes = e; next = refl }) p l

-- what stands in front of a page
pub front : (z vs : List ℕ) → take (length vs) (splice z 0 vs) ≡ vs
unfolding splice
front z vs = take_at vs (drop (0 + length vs) z) (length vs) refl

pub copied : {l z page l' vs : List ℕ} {n : ℕ} → Put z 0 vs n page → l' ≡ splice l 0 (take n page) → Put l 0 vs n l'
copied {l} {z} {page} {l'} {vs} {n} p e =
    let k : n ≡ length vs = let m = p.next in omega arith in
    record { bytes = e ∙ ap (splice l 0) (ap (take n) p.bytes ∙ (ap (λ i. take i (splice z 0 vs)) k ∙ front z vs)); next = p.next }

pub page-within : {z p vs : List ℕ} {n : ℕ} → Put z 0 vs n p → length vs ≤ length z → n ≤ length p
page-within {z} {p} {vs} {n} e h =
    let k = e.next in
    let l = ap length e.bytes ∙ length-splice z 0 vs (omega arith) in
    omega arith

-- ---- case by case

module _ {st tb l : List ℕ} where
  pub not_sound : (Sound st tb → ⊥) → Saves st tb l 1 0 l
  not_sound n =
      record {
        unsound = λ _. record { error = refl; count = refl; room = refl };
        eight = λ s. absurd (n s);
        short = λ s. absurd (n s);
        full = λ s. absurd (n s);
      }

  pub has_eight : Sound st tb → ((state_of st).width ≡ 4 → ⊥) → Saves st tb l 10 0 l
  has_eight s n =
      record {
        unsound = λ m. absurd (m s);
        eight = λ _ _. record { error = refl; count = refl; room = refl };
        short = λ _ e. absurd (n e);
        full = λ _ e. absurd (n e);
      }

  pub too_short : Sound st tb → (state_of st).width ≡ 4 → length l < length (text (held_by st tb)) → Saves st tb l 12 0 l
  too_short s w h =
      record {
        unsound = λ m. absurd (m s);
        eight = λ _ m. absurd (m w);
        short = λ _ _ _. record { error = refl; count = refl; room = refl };
        full = λ _ _ g. absurd (omega arith);
      }

  pub all_written : {n : ℕ} {l' : List ℕ} → Sound st tb → (state_of st).width ≡ 4 → length (text (held_by st tb)) ≤ length l → Put l 0 (text (held_by st tb)) n l' → Saves st tb l 0 n l'
  all_written s w h p =
      record {
        unsound = λ m. absurd (m s);
        eight = λ _ m. absurd (m w);
        short = λ _ _ g. absurd (omega arith);
        full = λ _ _ _. record { error = refl; put = p };
      }

-- ---- no second text fits

pub four_or_not {ℓ} : {R : Type ℓ} (w : ℕ) → (w ≡ 4 → R) → ((w ≡ 4 → ⊥) → R) → R
four_or_not w y z = by_test (eqb w 4) (λ t. y (eqb→eq w 4 t)) (λ t. z (λ e. T_not (eqb w 4) t (subst (λ x. T (eqb x 4)) (sym e) tt)))

module _ {l : List ℕ} {e e₂ n n₂ : ℕ} {l₁ l₂ : List ℕ} where
  unwritten_same : {c : ℕ} → Unwritten c l e n l₁ → Unwritten c l e₂ n₂ l₂ → (e ≡ e₂) × (n ≡ n₂) × (l₁ ≡ l₂)
  unwritten_same a b = (a.error ∙ sym b.error, a.count ∙ sym b.count, a.room ∙ sym b.room)

  full_same : {st tb : List ℕ} → Full st tb l e n l₁ → Full st tb l e₂ n₂ l₂ → (e ≡ e₂) × (n ≡ n₂) × (l₁ ≡ l₂)
  full_same a b = (a.error ∙ sym b.error, a.put.next ∙ sym b.put.next, a.put.bytes ∙ sym b.put.bytes)

  pub one_saving : {st tb : List ℕ} → Saves st tb l e n l₁ → Saves st tb l e₂ n₂ l₂ → (e ≡ e₂) × (n ≡ n₂) × (l₁ ≡ l₂)
  one_saving {st} {tb} a b =
      sound_or_not st tb
      (λ s. four_or_not (state_of st).width
      (λ w. by_test (leb (length (text (held_by st tb))) (length l))
      (λ t. let h = leb→le (length (text (held_by st tb))) (length l) t in full_same (a.full s w h) (b.full s w h))
      (λ t. let h = nleb→lt (length (text (held_by st tb))) (length l) t in unwritten_same (a.short s w h) (b.short s w h)))
      (λ w. unwritten_same (a.eight s w) (b.eight s w)))
      (λ s. unwritten_same (a.unsound s) (b.unsound s))
