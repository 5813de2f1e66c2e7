-- How a state saved in the second form meets its promise, case by case; no second text fits. Assumes nothing.
use Prim.Native.Nat.{ℕ, zero, suc, ◌+◌, ◌*◌, ◌≤◌, ◌<◌}
use mathlib.Core.Path.{◌≡◌, refl, ap, ap₂, sym, subst, ◌∙◌}
use mathlib.Core.Bool.{Bool, true, false, ◌||◌}
use mathlib.Core.List.{List, [], ◌∷◌, ◌++◌}
use native.Mathlib.Omega.{arith}
use lib.Dec.{T, T_not, eqb, eqb→eq, eqb_refl, leb, leb→le, nleb→lt}
use lib.ListN.{length, get_or, take, drop}
use lib.Seq.{take_at}
use Rattle.memory.specs.Splice.{splice}
use Rattle.memory.proofs.Splice.{length-splice}
use Rattle.machine.specs.State.{State}
use Rattle.machine.specs.Log.{line, hex_digit}
use Rattle.machine.proofs.Tests.{by_test}
use Rattle.machine.specs.InBytes.{two_bytes}
use Rattle.display.specs.Display.{numbers_from, numbers}
use Rattle.image.specs.board.declared.Board.{Board}
use Rattle.image.specs.board.Board.{sized, state_in, Held}
use Rattle.image.proofs.board.Laws.{sized-within, held_width, held_sized}
use Rattle.image.specs.Image.{state_of}
use Rattle.accepting.specs.sound.Sound.{Decides}
use Rattle.accepting.specs.waiting_list.WaitingList.{Sound}
use Rattle.accepting.proofs.waiting_list.Laws.{sound_or_not}
use Rattle.number_lines.specs.hex_lines.HexLines.{Put}
use Rattle.number_lines.specs.saved.Saved.{frames, spelt}
use Rattle.number_lines.proofs.saved.Lengths.{frames_most}
use Rattle.number_lines.proofs.frame_lines.FrameLines.{spelt-append, put_then, put_as}
use Rattle.number_lines.specs.saved2.Saved2.{SECOND, board_frame, number_frames, frames2, text2}
use Rattle.number_lines.proofs.saved2.Lengths2.{text2_most}
use Rattle.recounting.specs.Recounting.{counted}
use Rattle.number_lines.specs.NumberLines.{number_lines}
use Rattle.number_lines.proofs.NumberLines.{counted-lines}
use Rattle.accepting.proofs.Accepting.{same_or_not}
use Rattle.accepting.specs.saving.Saving.{held_by, Unwritten}
use Rattle.accepting.proofs.saving.Laws.{front}
use Rattle.saving2.specs.Saving2.{Filled, Fills, Agrees, Saves2}

-- ---- the text on a page

module _ {b : Board} {tb : List ℕ} (h : Held b tb) where
  pub within : b.width ≤ 8
  within = (sized-within b.width (held_sized h)).1

  pub frames_fit : 10 + length (spelt (frames (state_in b tb))) + 9 * b.width ≤ 3521
  frames_fit = let e = frames_most (state_in b tb) h.sane in let w = held_width h in let k = within in omega arith

  pub text2_fits : length (text2 (state_in b tb)) ≤ 3521
  text2_fits = let e = text2_most (state_in b tb) h.sane in let w = held_width h in let k = within in omega arith

  -- the two lines in front, those of the first form, those of the numbers
  pub text2_parts : {d : List ℕ} → d ≡ counted (state_in b tb)
      → line SECOND ++ (line (0xD8 ∷ b.width ∷ []) ++ (spelt (frames (state_in b tb)) ++ spelt (number_lines b.width d))) ≡ text2 (state_in b tb)
  unfolding text2 frames2 spelt
  text2_parts {d} e =
      let s = state_in b tb in
      let w = held_width h in
      let n : number_lines b.width d ≡ number_frames (length s.channels) s =
      ap (number_lines b.width) e ∙ (counted-lines s (two_bytes 0) b.width within ∙ ap (λ k. number_frames k s) w) in
      let f : spelt (frames s) ++ spelt (number_lines b.width d) ≡ spelt (frames s ++ number_frames (length s.channels) s) =
      ap (λ x. spelt (frames s) ++ spelt x) n ∙ sym (spelt-append (frames s) (number_frames (length s.channels) s)) in
      ap₂ (λ (k : ℕ) (x : List ℕ). line SECOND ++ (line (0xD8 ∷ k ∷ []) ++ x)) w f

-- bytes in the order in which they are put
pub text2-put : (w : ℕ) {page page₁ page₂ page₃ page₄ : List ℕ} {p q r : ℕ} {fs ns : List ℕ} → 10 + length fs ≤ length page
    → page₁ ≡ splice page 0 (68 ∷ 48 ∷ 48 ∷ 50 ∷ 10 ∷ []) → Put page₁ 5 (line (0xD8 ∷ w ∷ [])) p page₂ → Put page₂ p fs q page₃ → Put page₃ q ns r page₄
    → Put page 0 (line SECOND ++ (line (0xD8 ∷ w ∷ []) ++ (fs ++ ns))) r page₄
unfolding line hex_digit
text2-put w {page} {page₁} {fs = fs} h e b f n =
    let l₁ = ap length e ∙ length-splice page 0 (68 ∷ 48 ∷ 48 ∷ 50 ∷ 10 ∷ []) (omega arith) in
    let l₂ = ap length b.bytes ∙ length-splice page₁ 5 (line (0xD8 ∷ w ∷ [])) (omega arith) in
    let k = b.next in
    put_then (record { bytes = e; next = refl }) (put_then b (put_then f n (omega arith)) (omega arith)) (omega arith)

-- what stands in front of a page where bytes were put
pub taken_front : {z page vs : List ℕ} {n : ℕ} → Put z 0 vs n page → take n page ≡ vs
taken_front {z} {page} {vs} {n} p =
    let k : n ≡ length vs = let m = p.next in omega arith in
    ap (take n) p.bytes ∙ (ap (λ i. take i (splice z 0 vs)) k ∙ front z vs)

-- ---- the numbers

pub counted-numbers : (s : State) {d : List ℕ} → d ≡ counted s → take 16 d ≡ numbers s
unfolding numbers_from
counted-numbers s e = ap (take 16) e ∙ refl

pub counted-long : (s : State) {d : List ℕ} → d ≡ counted s → length d ≡ 18
unfolding numbers_from
counted-long s e = ap length e ∙ refl

pub numbers_agree : {dp ns : List ℕ} {r : Bool} (s : State) → length dp ≡ 18 → ns ≡ numbers s → Decides r (take 16 dp ≡ ns) → Decides r (Agrees dp s)
numbers_agree s l e d =
    record { only = λ z. record { size = l; counts = d.only z ∙ e }; always = λ a. d.always (a.counts ∙ sym e) }

-- ---- bytes handed over

pub does_not_fit : {vs l : List ℕ} → length l < length vs → Fills vs l 12 0 l
does_not_fit h = record { short = λ _. record { error = refl; count = refl; room = refl }; full = λ g. absurd (omega arith) }

pub fits : {vs l l' : List ℕ} {n : ℕ} → length vs ≤ length l → Put l 0 vs n l' → Fills vs l 0 n l'
fits h p = record { short = λ g. absurd (omega arith); full = λ _. record { error = refl; put = p } }

-- ---- case by case

module _ {st tb dp l : List ℕ} where
  pub not_sound : (Sound st tb → ⊥) → Saves2 st tb dp l 1 0 l
  not_sound n =
      record {
        unsound = λ _. record { error = refl; count = refl; room = refl };
        disagree = λ _. record { error = refl; count = refl; room = refl };
        saved = λ s. absurd (n s);
      }

  pub disagrees : Sound st tb → (Agrees dp (held_by st tb) → ⊥) → Saves2 st tb dp l 1 0 l
  disagrees s n =
      record {
        unsound = λ m. absurd (m s);
        disagree = λ _. record { error = refl; count = refl; room = refl };
        saved = λ _ a. absurd (n a);
      }

  pub handed : {e n : ℕ} {l' : List ℕ} → Sound st tb → Agrees dp (held_by st tb) → Fills (text2 (held_by st tb)) l e n l' → Saves2 st tb dp l e n l'
  handed s a f = record { unsound = λ m. absurd (m s); disagree = λ m. absurd (m a); saved = λ _ _. f }

  pub saved-text : {b : Board} {z page l' : List ℕ} {e n k : ℕ} → Sound st tb → b ≡ state_of st → Agrees dp (state_in b tb) → Put z 0 (text2 (state_in b tb)) k page
      → Fills (take k page) l e n l' → Saves2 st tb dp l e n l'
  saved-text {b} {l' = l'} {e = e} {n = n} s x a p f =
      let y = ap (λ (q : Board). state_in q tb) x in
      handed s (subst (λ u. Agrees dp u) y a) (subst (λ u. Fills (text2 u) l e n l') y (subst (λ vs. Fills vs l e n l') (taken_front p) f))

-- ---- no second text fits

pub agrees_or_not {ℓ} : {R : Type ℓ} (dp : List ℕ) (s : State) → (Agrees dp s → R) → ((Agrees dp s → ⊥) → R) → R
agrees_or_not dp s y z =
    by_test (eqb (length dp) 18)
    (λ t. same_or_not (take 16 dp) (numbers s) (λ e. y (record { size = eqb→eq (length dp) 18 t; counts = e })) (λ n. z (λ a. n a.counts)))
    (λ t. z (λ a. T_not (eqb (length dp) 18) t (subst (λ x. T (eqb x 18)) (sym a.size) tt)))

module _ {l : List ℕ} {e e₂ n n₂ : ℕ} {l₁ l₂ : List ℕ} where
  pub unwritten_same : {c : ℕ} → Unwritten c l e n l₁ → Unwritten c l e₂ n₂ l₂ → (e ≡ e₂) × (n ≡ n₂) × (l₁ ≡ l₂)
  unwritten_same a b = (a.error ∙ sym b.error, a.count ∙ sym b.count, a.room ∙ sym b.room)

  pub fills_same : {vs : List ℕ} → Fills vs l e n l₁ → Fills vs l e₂ n₂ l₂ → (e ≡ e₂) × (n ≡ n₂) × (l₁ ≡ l₂)
  fills_same {vs} a b =
      by_test (leb (length vs) (length l))
      (λ t. let h = leb→le (length vs) (length l) t in let x = a.full h in let y = b.full h in
      (x.error ∙ sym y.error, x.put.next ∙ sym y.put.next, x.put.bytes ∙ sym y.put.bytes))
      (λ t. let h = nleb→lt (length vs) (length l) t in unwritten_same (a.short h) (b.short h))

  pub one_saving2 : {st tb dp : List ℕ} → Saves2 st tb dp l e n l₁ → Saves2 st tb dp l e₂ n₂ l₂ → (e ≡ e₂) × (n ≡ n₂) × (l₁ ≡ l₂)
  one_saving2 {st} {tb} {dp} a b =
      sound_or_not st tb
      (λ s. agrees_or_not dp (held_by st tb) (λ g. fills_same (a.saved s g) (b.saved s g)) (λ g. unwritten_same (a.disagree g) (b.disagree g)))
      (λ s. unwritten_same (a.unsound s) (b.unsound s))
