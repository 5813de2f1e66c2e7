-- Lists of which one desk keeps its own. Assumes nothing.

use mathlib.Core.Path.{◌≡◌, refl, ap, sym, ◌∙◌}
use mathlib.Core.Bool.{Bool, true, false, cond}
use mathlib.Core.List.{List, [], ◌∷◌, map}
use lib.Dec.{T}
use Rattle.std.specs.Prelude.{if◌then◌else◌}
use Rattle.machine_laws.specs.machine.Lists.{keep}
use Rattle.machine_laws.proofs.Lists.{keep_twice, keep_swap}

pub keep_map {ℓ κ} : {A : Type ℓ} {B : Type κ} (q : A → Bool) (p : B → Bool) (f : A → B) → ((x : A) → p (f x) ≡ q x) → (xs : List A)
    → keep p (map f xs) ≡ map f (keep q xs)
unfolding keep
keep_map q p f e [] = refl
keep_map {A} {B} q p f e (x ∷ xs) = go (q x) (e x) (keep_map q p f e xs)
  where
    go : (b : Bool) → p (f x) ≡ b → keep p (map f xs) ≡ map f (keep q xs) → keep p (map f (x ∷ xs)) ≡ map f (cond b (x ∷ keep q xs) (keep q xs))
    go true h ih = rw (h, ih)
    go false h ih = rw (h, ih)

-- keeping before and after is keeping after
pub kept_map {ℓ κ} : {A : Type ℓ} {B : Type κ} (q : A → Bool) (p : B → Bool) (f : A → B) → ((x : A) → p (f x) ≡ q x) → (xs : List A)
    → keep p (map f (keep q xs)) ≡ keep p (map f xs)
kept_map q p f e xs = keep_map q p f e (keep q xs) ∙ ap (map f) (keep_twice q xs) ∙ sym (keep_map q p f e xs)

pub kept_keep {ℓ} : {A : Type ℓ} (q p : A → Bool) (xs : List A) → keep q (keep p (keep q xs)) ≡ keep q (keep p xs)
kept_keep q p xs = ap (keep q) (keep_swap p q xs) ∙ keep_twice q (keep p xs)

-- what passes p passes q as well
pub keep_in {ℓ} : {A : Type ℓ} (p q : A → Bool) → ((x : A) → T (p x) → T (q x)) → (xs : List A) → keep p (keep q xs) ≡ keep p xs
unfolding keep
keep_in p q h [] = refl
keep_in {A} p q h (x ∷ xs) = go (q x) (p x) refl (h x) (keep_in p q h xs)
  where
    go : (b a : Bool) → p x ≡ a → (T a → T b) → keep p (keep q xs) ≡ keep p xs
        → keep p (cond b (x ∷ keep q xs) (keep q xs)) ≡ cond a (x ∷ keep p xs) (keep p xs)
    go true a e f ih = rw (e, ih)
    go false true e f ih = absurd (f tt)
    go false false e f ih = ih
