-- The lines of numbers that were counted are those of the state: each number stands at its place of the display. Assumes nothing.
use Prim.Native.Nat.{ℕ, zero, suc, ◌+◌, ◌*◌, ◌≤◌, ◌<◌}
use mathlib.Core.Path.{◌≡◌, refl, ap, ap₂, sym, ◌∙◌}
use mathlib.Core.List.{List, [], ◌∷◌, ◌++◌, append-nil}
use native.Mathlib.Omega.{arith}
use native.Mathlib.Numerals.{add-one}
use lib.ListN.{length, get_or, length-append, get_or-append}
use Rattle.machine.specs.State.{State}
use Rattle.machine.specs.Log.{line}
use Rattle.display.specs.Display.{number, numbers_from, numbers}
use Rattle.display.proofs.Pinned.{number_even, number-odd, numbers_at}
use Rattle.saved2.specs.saved.Saved.{spelt}
use Rattle.frame_lines.proofs.FrameLines.{spelt-append}
use Rattle.saved2.specs.Saved2.{number_frame, number_frames}
use Rattle.number_lines.specs.NumberLines.{number_line, number_lines}

-- ---- their length

pub lines_nine : (n : ℕ) (d : List ℕ) → length (spelt (number_lines n d)) ≡ 9 * n
unfolding number_lines
lines_nine zero d = unfold spelt in refl
lines_nine (suc n) d =
    let a = ap length (spelt-append (number_lines n d) (number_line d n ∷ [])) in
    let b = length-append (spelt (number_lines n d)) (spelt (number_line d n ∷ [])) in
    let c : length (spelt (number_line d n ∷ [])) ≡ 9 = unfold number_line spelt line in refl in
    let e = lines_nine n d in
    omega arith

-- one line more
pub lines_more : (i : ℕ) (d : List ℕ) → spelt (number_lines i d) ++ line (number_line d i) ≡ spelt (number_lines (i + 1) d)
unfolding number_lines
lines_more i d =
    let e : spelt (number_line d i ∷ []) ≡ line (number_line d i) = unfold spelt in append-nil (line (number_line d i)) in
    rw (add-one i) (ap (λ l. spelt (number_lines i d) ++ l) (sym e) ∙ sym (spelt-append (number_lines i d) (number_line d i ∷ [])))

-- ---- numbers that were counted

module _ (s : State) (xs : List ℕ) where
  counted_at : (j : ℕ) → j < 16 → get_or (numbers s ++ xs) j 0 ≡ number j s
  counted_at j h = let k : j < length (numbers s) = unfold numbers_from in h in get_or-append (numbers s) xs 0 j k ∙ numbers_at s j h

  counted_line : (i : ℕ) → i < 8 → number_line (numbers s ++ xs) i ≡ number_frame s i
  unfolding number_line number_frame
  counted_line i h =
      let a = counted_at (2 * i) (omega arith) ∙ number_even i s in
      let b = counted_at (2 * i + 1) (omega arith) ∙ (ap (λ j. number j s) (add-one (2 * i)) ∙ number-odd i s) in
      ap₂ (λ (x y : ℕ). 0xD9 ∷ i ∷ x ∷ y ∷ []) a b

  pub counted-lines : (n : ℕ) → n ≤ 8 → number_lines n (numbers s ++ xs) ≡ number_frames n s
  unfolding number_lines number_frames
  counted-lines zero h = refl
  counted-lines (suc n) h = ap₂ (λ (fs : List (List ℕ)) (f : List ℕ). fs ++ (f ∷ [])) (counted-lines n (omega arith)) (counted_line n (omega arith))
