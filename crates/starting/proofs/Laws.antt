-- Which half of the promise is asked, by the number of channels and the lengths lent. Assumes nothing.
use Prim.Native.Nat.{ℕ}
use mathlib.Core.Bool.{Bool, true, false}
use mathlib.Core.Path.{◌≡◌, refl, sym, subst, ◌∙◌}
use lib.Dec.{T}
use mathlib.Core.List.{List}
use lib.ListN.{length, replicate, length-replicate}
use Rattle.memory.specs.Splice.{splice}
use Rattle.image.specs.board.declared.Board.{Board}
use Rattle.image.specs.board.Board.{fresh_board, sized}
use Rattle.image.proofs.board.Laws.{fresh_of}
use Rattle.image.specs.Image.{Saved}
use Rattle.image.proofs.Laws.{splice_whole}
use Rattle.starting.specs.Starting.{Fits, Started}

module _ {w : ℕ} {st tb dp : List ℕ} where
  pub not_begun : (Fits w st tb dp → ⊥) → Started w st tb dp 1 st tb dp
  not_begun n =
      record { begun = λ h. absurd (n h); otherwise = λ _. record { result = refl; state = refl; table = refl; display = refl } }

  pub begun : Fits w st tb dp → {b : Board} {st' tb' dp' : List ℕ} → b ≡ fresh_board w → Saved b st' → tb' ≡ splice tb 0 (replicate (length tb) 0)
      → dp' ≡ splice dp 0 (replicate 18 0) → Started w st tb dp 0 st' tb' dp'
  begun h {b} {st'} e v c d =
      record {
        begun = λ _. record {
          result = refl;
          state = subst (λ (x : Board). Saved x st') (e ∙ fresh_of w h.board) v;
          table = c ∙ splice_whole tb _ (length-replicate {A = ℕ} (length tb) 0);
          display = d ∙ splice_whole dp _ (sym h.display);
        };
        otherwise = λ n. absurd (n h);
      }

  -- by the test of each: a board of no such width, and memory of another length

  pub not_sized : {b : Bool} → b ≡ sized w → b ≡ false → Started w st tb dp 1 st tb dp
  not_sized e f = not_begun (λ h. rw (sym e ∙ f) at h.board)

  pub other_state : (length st ≡ 823 → ⊥) → Started w st tb dp 1 st tb dp
  other_state n = not_begun (λ h. n h.state)

  pub other_table : (length tb ≡ 1472 → ⊥) → Started w st tb dp 1 st tb dp
  other_table n = not_begun (λ h. n h.table)

  pub other_display : (length dp ≡ 18 → ⊥) → Started w st tb dp 1 st tb dp
  other_display n = not_begun (λ h. n h.display)
