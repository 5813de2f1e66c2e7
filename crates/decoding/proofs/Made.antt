-- An array made by a call for each index, where each call leaves the closure as it was: its elements are the calls' values. Assumes nothing.
use Prim.Native.Nat.{ℕ, zero, suc, ◌+◌, ◌*◌, ◌<◌}
use mathlib.Core.Path.{◌≡◌, refl, ap, subst, ◌∙◌}
use mathlib.Core.List.{List, ◌∷◌, map}
use native.Mathlib.Omega.{arith}
use lib.ListN.{get_or}
use denote.Param.Members.{Mut, Called}
use Rattle.std.specs.Array.{IsFromFnResultFrom, IsFromFnResult}
use Rattle.std.specs.List.{range_with_len}
use Rattle.std.proofs.lemmas.List.FromFn.{fill_by_all}
use Rattle.image.specs.Image.{key_at, keys_from}

module _ {F B : Type 0} (g : Mut F (ℕ × Unit {0}) B) (h : ℕ → B) (f : F) (ys : List B)
    (gives : (i : ℕ) (y : B) (q : F) → Called g f (i, tt) y q → (q ≡ f) × (y ≡ h i)) where
  each_made : (n i : ℕ) → IsFromFnResultFrom g f ys i n → (k : ℕ) (d : B) → k < n → get_or ys (i + k) d ≡ h (i + k)
  each_made zero i r k d l = absurd (omega arith)
  each_made (suc n) i (q, y, e, c, r) zero d l = let z : i + 0 ≡ i = omega arith in rw z (e.1 d ∙ (gives i y q c).1)
  each_made (suc n) i (q, y, e, c, r) (suc k) d l =
      let z : i + suc k ≡ i + 1 + k = omega arith in
      rw z (each_made n (i + 1) (subst (λ (p : F). IsFromFnResultFrom g p ys (i + 1) n) (gives i y q c).0 r) k d (omega arith))

  pub made : {n : ℕ} → B → IsFromFnResult g f ys n → ys ≡ map h (range_with_len 0 n)
  made {n} d r = fill_by_all h ys n d r.long (λ k l. let z : 0 + k ≡ k = omega arith in rw z at (each_made n 0 r.each k d l))

-- keys one behind the other, each at its index
keys_by_index : (bs : List ℕ) (at n i : ℕ) → map (λ k. key_at bs (at + 2 * k)) (range_with_len i n) ≡ keys_from n bs (at + 2 * i)
unfolding keys_from
keys_by_index bs at zero i = refl
keys_by_index bs at (suc n) i =
    let e : at + 2 * (i + 1) ≡ at + 2 * i + 2 = omega arith in
    ap (λ (l : List ℕ). key_at bs (at + 2 * i) ∷ l) (keys_by_index bs at n (i + 1) ∙ ap (keys_from n bs) e)

pub keys_made : (bs : List ℕ) (at : ℕ) → map (λ k. key_at bs (at + 2 * k)) (range_with_len 0 32) ≡ keys_from 32 bs at
keys_made bs at = let e : at + 2 * 0 ≡ at = omega arith in keys_by_index bs at 32 0 ∙ ap (keys_from 32 bs) e
