-- How long a text of the second form is: ten bytes, the lines of the first form, and nine bytes for each channel. Assumes nothing.
use Prim.Native.Nat.{ℕ, zero, suc, ◌+◌, ◌*◌, ◌≤◌}
use mathlib.Core.Path.{◌≡◌, refl, ap, sym, ◌∙◌}
use mathlib.Core.List.{List, [], ◌∷◌, ◌++◌, append_assoc}
use native.Mathlib.Omega.{arith}
use lib.Dec.{T}
use lib.ListN.{length, length-append}
use Rattle.machine.specs.State.{State}
use Rattle.machine.specs.Sound.{sound}
use Rattle.machine.specs.Log.{line, hex_digit}
use Rattle.saved.specs.Saved.{frames, spelt}
use Rattle.saved.proofs.Lengths.{frames_most}
use Rattle.saved2.specs.Saved2.{SECOND, board_frame, number_frame, number_frames, frames2, text2}

pub spelt-append : (fs gs : List (List ℕ)) → spelt (fs ++ gs) ≡ spelt fs ++ spelt gs
unfolding spelt
spelt-append [] gs = refl
spelt-append (f ∷ fs) gs = ap (λ l. line f ++ l) (spelt-append fs gs) ∙ sym (append_assoc (line f) (spelt fs) (spelt gs))

-- a line of four bytes
pub number_nine : (s : State) (i : ℕ) → length (spelt (number_frame s i ∷ [])) ≡ 9
unfolding number_frame spelt line
number_nine s i = refl

pub numbers_nine : (n : ℕ) (s : State) → length (spelt (number_frames n s)) ≡ 9 * n
unfolding number_frames
numbers_nine zero s = unfold spelt in refl
numbers_nine (suc n) s =
    let a = ap length (spelt-append (number_frames n s) (number_frame s n ∷ [])) in
    let b = length-append (spelt (number_frames n s)) (spelt (number_frame s n ∷ [])) in
    let c = number_nine s n in
    let d = numbers_nine n s in
    omega arith

-- the two lines in front
pub text2-length : (s : State) → length (text2 s) ≡ 10 + length (spelt (frames s)) + 9 * length s.channels
unfolding text2 frames2 spelt line
text2-length s =
    let n = length s.channels in
    let a = ap length (spelt-append (frames s) (number_frames n s)) in
    let b = length-append (spelt (frames s)) (spelt (number_frames n s)) in
    let c = numbers_nine n s in
    omega arith

-- 3,385 bytes are always enough for four channels, 3,521 for eight
pub text2_most : (s : State) → T (sound s) → length (text2 s) ≤ 34 * length s.channels + 3249
text2_most s t = let e = frames_most s t in let k = text2-length s in omega arith
